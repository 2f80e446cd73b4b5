use Rattle.std.proofs.Common.{◌≡◌, ◌++◌, ◌+◌, ◌∙◌, ℕ, List, Result, OnOk, Ok, Err, sym, ap, [], append-nil, append_assoc}
use Rattle.ap_inspect.specs.StatementLines.{AreStatements, IsStatement}
use Rattle.ap_inspect.proofs.statements.+push_statements.Goals as goal

-- what was appended to a text
abbrev Appends : (List ℕ → Type 0) → List ℕ → List ℕ → Type 0
Appends Says before after = (x : List ℕ) × (after ≡ before ++ x) × Says x

later : {E A : Type 0} (r : Result A E) {P Q : Type 0} → (P → Q) → OnOk r P → OnOk r Q
later (Ok x) f h = f h
later (Err e) f h = tt

joined : (file before middle after : List ℕ) (from at : ℕ)
    → ((line : List ℕ) (lines : List ℕ) → IsStatement file at line → AreStatements file (at + 1) lines → AreStatements file from (line ++ lines))
    → Appends (IsStatement file at) before middle → Appends (AreStatements file (at + 1)) middle after
    → Appends (AreStatements file from) before after
joined file before middle after from at some (line, is, one) (lines, are, rest) =
    (line ++ lines, are ∙ ap (λ l. l ++ lines) is ∙ append_assoc before line lines, some line lines one rest)

-- src/statements.rt:20:9
pub returns-in_default : goal.returns-in_default
returns-in_default t c = ([], sym (append-nil c.args.text.now.items), AreStatements.none c.args.from c.in_default.ensures)

-- src/statements.rt:13:1
pub returns : goal.returns
returns t c =
    later c.push_statements.result
    (joined c.args.file.now c.args.text.now.items c.push_statement.new.text.items c.push_statements.new.text.items c.args.from c.in-Some.at
    (λ line lines. AreStatements.some c.args.from c.in-Some.at line lines c.in-Some.ensures.0 c.in-Some.ensures.1)
    c.in_ok-push_statement.ensures)
    c.push_statements.ensures
