-- What is read of lists, AND-OR lists and `if` is what the rules say.
use Rattle.std.proofs.Common.{◌≡◌, ◌∙◌, ◌≤◌, ◌<◌, ◌+◌, ℕ, zero, suc, List, [], ◌∷◌, ◌++◌, inl, inr, refl, sym, ap, ap₂, subst, Bool, true, false, if◌then◌else◌, ◌||◌, ◌==◌, length, arith, append-nil, append_assoc}
use Rattle.std.specs.Prelude.{Option, Some, None, codes, is_some}
use Rattle.std.proofs.lemmas.Bool.Decides.{nat_tests}
use Rattle.ap_shparse.specs.Bytes.{Text, past, past_byte}
use Rattle.ap_shparse.specs.Reads.{Outcome, and_then, eaten, if_eaten, pure}
use Rattle.ap_shparse.specs.Places.{Place, at_text, newlines, past_gap, past_newline}
use Rattle.ap_shparse.specs.Commands.{is_keyword, is_left_out, is_loop, is_nil, is_reserved, past_blanks, sees, simple, substitution}
use Rattle.ap_shparse.specs.Lists.{Lists, chain, choice, closes, command, ended, item_of, items, items_from, join, joined, joiner, keyword, list, next_item, others, others_by, otherwise, past_end, past_twice, simple_member}
use Rattle.ap_shparse.specs.CommandRules.{IsSimple, IsSubstitution}
use Rattle.ap_shparse.specs.LineRules.{IsKeyword, Rule}
use Rattle.ap_shparse.specs.ListRules.{AreItems, AreJoined, IsCommand, IsElse, IsEnded, IsIfMember, IsItem, IsItemEnd, IsJoined, IsList, IsOperator, IsSome, NoOperator, operator}
use Rattle.ap_shparse.specs.declared.class.Class.TheVariants.{Blank}
use Rattle.ap_shparse.specs.declared.elements.Called.{Called}
use Rattle.ap_shparse.specs.declared.item.Item.{Item}
use Rattle.ap_shparse.specs.declared.item.Member.{Member}
use Rattle.ap_shparse.specs.declared.tree.Chain.{Chain}
use Rattle.ap_shparse.specs.declared.tree.Joined.{Joined}
use Rattle.ap_shparse.specs.declared.tree.Node.TheVariants as node
use Rattle.ap_shparse.proofs.Keeps.{both_of, inner, left_of, right_of}
use Rattle.ap_shparse.proofs.ItemLemmas.{some_end, some_turn}
use Rattle.ap_shparse.proofs.GapLemmas.{after_short, gap_short, newline_short}
use Rattle.ap_shparse.proofs.CommandMeets.{simple_meets, substitution_meets}
use Rattle.ap_shparse.proofs.KeptPieces.{never_some}
use Rattle.ap_shparse.proofs.PieceMeets.{byte_at}
use Rattle.ap_shparse.proofs.LineMeets.{Meets, keyword_past, keyword_short, keyword_sound, keyword_whole, lines_shorter, lines_sound, lines_whole, newline_sound, newline_whole, none_past, past_keyword, past_none}

pub simple_is : Meets 1 (simple substitution) (IsSimple IsSubstitution)
simple_is = simple_meets substitution IsSubstitution substitution_meets

-- a reading's answer, by its parts
pub pair : {A S : Type 0} (a b : A) (s t : S) → a ≡ b → s ≡ t → ◌≡◌ {A = Option (A × S)} (Some (a, s)) (Some (b, t))
pair a b s t e w = ap₂ (λ x y. Some (x, y)) e w

-- ---- commands

else_meets : (below : Lists) (IsBelow : Rule (List Chain)) → Meets 0 below IsBelow → Meets 0 (otherwise below) (IsElse IsBelow)
unfolding otherwise
else_meets below IsBelow m = record { sound = sound; whole = whole; short = short }
  where
    sound : (p q : Place) (cs : List Chain) → otherwise below p ≡ Some (cs, q) → IsElse IsBelow p q cs
    sound p q cs e = by_past (past (codes "else") p.text) refl e
      where
        by_past : (o : Option Text) → past (codes "else") p.text ≡ o → if_eaten o (λ t. below (at_text p t)) (Some ([], p)) ≡ Some (cs, q) → IsElse IsBelow p q cs
        by_past None is e = inl (none_past (codes "else") p.text is, sym (right_of [] cs p q e), sym (left_of [] cs p q e))
        by_past (Some t) is e = inr (at_text p t, keyword_past (codes "else") p t is, m.sound (at_text p t) q cs e)

    whole : (p q : Place) (cs : List Chain) → IsElse IsBelow p q cs → otherwise below p ≡ Some (cs, q)
    whole p q cs (inl x) = ap (λ o. if_eaten o (λ t. below (at_text p t)) (Some ([], p))) (past_none (codes "else") p.text x.0) ∙ pair [] cs p q (sym x.2) (sym x.1)
    whole p q cs (inr x) =
        ap (λ o. if_eaten o (λ t. below (at_text p t)) (Some ([], p))) (past_keyword (codes "else") p x.0 x.1) ∙ ap below (sym x.1.2) ∙ m.whole x.0 q cs x.2

    short : (p q : Place) (cs : List Chain) → IsElse IsBelow p q cs → 0 + length q.text ≤ length p.text
    short p q cs (inl x) = omega (arith, ap (λ y. length y.text) x.1)
    short p q cs (inr x) = omega (arith, keyword_short (codes "else") p x.0 x.1, m.short x.0 q cs x.2)

abbrev if_member : List Chain → List Chain → List Chain → Member
if_member test yes_list no_list = record { node = node.If test yes_list no_list; stops = false }

abbrev at_fi : List Chain → List Chain → List Chain → Place → Outcome Place Member
at_fi test yes_list no_list s = and_then (keyword (codes "fi") s) (λ _. pure (if_member test yes_list no_list))

abbrev at_else : Lists → List Chain → List Chain → Place → Outcome Place Member
at_else below test yes_list s = and_then (otherwise below s) (at_fi test yes_list)

abbrev at_then : Lists → List Chain → Place → Outcome Place Member
at_then below test s = and_then (keyword (codes "then") s) (λ _ t. and_then (below t) (at_else below test))

if_sound : (below : Lists) (IsBelow : Rule (List Chain)) → Meets 0 below IsBelow → (p s q : Place) (m : Member) → IsKeyword (codes "if") p s → choice below s ≡ Some (m, q) → IsIfMember IsBelow p q m
unfolding choice
if_sound below IsBelow k p s q m is e =
    let a = both_of (below s) (at_then below) (m, q) e in
    let b = both_of (keyword (codes "then") a.left) (λ _ t. and_then (below t) (at_else below a.first)) (m, q) a.is_second in
    let c = both_of (below b.left) (at_else below a.first) (m, q) b.is_second in
    let d = both_of (otherwise below c.left) (at_fi a.first c.first) (m, q) c.is_second in
    let f = both_of (keyword (codes "fi") d.left) (λ _. pure (if_member a.first c.first d.first)) (m, q) d.is_second in
    let v = left_of (if_member a.first c.first d.first) m f.left q f.is_second in
    let w = right_of (if_member a.first c.first d.first) m f.left q f.is_second in
    record {
      is_if = record {
        if_end = s;
        test_end = a.left;
        then_end = b.left;
        yes_end = c.left;
        no_end = d.left;
        test = a.first;
        yes_list = c.first;
        no_list = d.first;
        is_if = is;
        is_test = k.sound s a.left a.first a.is_first;
        is_then = keyword_sound (codes "then") a.left b.left b.first b.is_first;
        is_yes = k.sound b.left c.left c.first c.is_first;
        is_else = (else_meets below IsBelow k).sound c.left d.left d.first d.is_first;
        is_fi = keyword_sound (codes "fi") d.left q f.first (f.is_first ∙ ap (λ y. Some (f.first, y)) w);
        value = sym (ap (λ y. y.node) v);
      };
      goes_on = sym (ap (λ y. y.stops) v);
    }

if_whole : (below : Lists) (IsBelow : Rule (List Chain)) → Meets 0 below IsBelow → (p q : Place) (m : Member) → (i : IsIfMember IsBelow p q m) → choice below i.is_if.if_end ≡ Some (m, q)
unfolding choice
if_whole below IsBelow k p q m j =
    let i = j.is_if in
    ap (λ o. and_then o (at_then below)) (k.whole i.if_end i.test_end i.test i.is_test)
    ∙ ap (λ o. and_then o (λ _ t. and_then (below t) (at_else below i.test))) (keyword_whole (codes "then") i.test_end i.then_end i.is_then)
    ∙ ap (λ o. and_then o (at_else below i.test)) (k.whole i.then_end i.yes_end i.yes_list i.is_yes)
    ∙ ap (λ o. and_then o (at_fi i.test i.yes_list)) ((else_meets below IsBelow k).whole i.yes_end i.no_end i.no_list i.is_else)
    ∙ ap (λ o. and_then o (λ _. pure (if_member i.test i.yes_list i.no_list))) (keyword_whole (codes "fi") i.no_end q i.is_fi)
    ∙ ap₂ (λ x y. Some (record { node = x; stops = y }, q)) (sym i.value) (sym j.goes_on)

if_short : (below : Lists) (IsBelow : Rule (List Chain)) → Meets 0 below IsBelow → (p q : Place) (m : Member) → IsIfMember IsBelow p q m → 1 + length q.text ≤ length p.text
if_short below IsBelow k p q m j =
    let i = j.is_if in
    omega (
      arith,
      keyword_short (codes "if") p i.if_end i.is_if,
      k.short i.if_end i.test_end i.test i.is_test,
      keyword_short (codes "then") i.test_end i.then_end i.is_then,
      k.short i.then_end i.yes_end i.yes_list i.is_yes,
      (else_meets below IsBelow k).short i.yes_end i.no_end i.no_list i.is_else,
      keyword_short (codes "fi") i.no_end q i.is_fi,
    )

abbrev member_of : Called → Member
member_of c = record { node = node.Simple c.simple; stops = c.stops }

-- where no reserved word stands, no `if` does
no_if : (t : Text) → is_reserved t ≡ false → past (codes "if") t ≡ None
unfolding is_reserved
no_if t e = by_past (past (codes "if") t) refl e
  where
    by_past : (o : Option Text) → past (codes "if") t ≡ o → (is_some o || closes t) || (is_loop t || is_left_out t) ≡ false → o ≡ None
    by_past None is e = refl
    by_past (Some u) is e = cc

command_meets : (below : Lists) (IsBelow : Rule (List Chain)) → Meets 0 below IsBelow → Meets 1 (command below) (IsCommand IsBelow)
unfolding command
command_meets below IsBelow k = record { sound = sound; whole = whole; short = short }
  where
    sound : (p q : Place) (m : Member) → command below p ≡ Some (m, q) → IsCommand IsBelow p q m
    sound p q m e = by_past (past (codes "if") p.text) refl e
      where
        by_past : (o : Option Text) → past (codes "if") p.text ≡ o → if_eaten o (λ t. choice below (at_text p t)) (simple_member p) ≡ Some (m, q) → IsCommand IsBelow p q m
        by_past None is e =
            let w = both_of (simple substitution p) (λ c. pure (member_of c)) (m, q) e in
            let v = left_of (member_of w.first) m w.left q w.is_second in
            let l = right_of (member_of w.first) m w.left q w.is_second in
            inl (record { command = w.first; is_simple = simple_is.sound p q w.first (w.is_first ∙ ap (λ y. Some (w.first, y)) l); is_node = sym (ap (λ y. y.node) v); is_stops = sym (ap (λ y. y.stops) v) })
        by_past (Some t) is e = inr (if_sound below IsBelow k p (at_text p t) q m (keyword_past (codes "if") p t is) e)

    whole : (p q : Place) (m : Member) → IsCommand IsBelow p q m → command below p ≡ Some (m, q)
    whole p q m (inl x) =
        ap (λ o. if_eaten o (λ t. choice below (at_text p t)) (simple_member p)) (no_if p.text x.is_simple.not_reserved)
        ∙ ap (λ o. and_then o (λ c. pure (member_of c))) (simple_is.whole p q x.command x.is_simple)
        ∙ ap₂ (λ y z. Some (record { node = y; stops = z }, q)) (sym x.is_node) (sym x.is_stops)
    whole p q m (inr x) =
        let w = x.is_if.is_if in
        ap (λ o. if_eaten o (λ t. choice below (at_text p t)) (simple_member p)) (past_keyword (codes "if") p x.is_if.if_end w) ∙ ap (choice below) (sym w.2) ∙ if_whole below IsBelow k p q m x

    short : (p q : Place) (m : Member) → IsCommand IsBelow p q m → 1 + length q.text ≤ length p.text
    short p q m (inl x) = simple_is.short p q x.command x.is_simple
    short p q m (inr x) = if_short below IsBelow k p q m x

-- ---- AND-OR lists

twice_at : (k : ℕ) (t u : Text) → past_twice k t ≡ Some u → t ≡ k ∷ k ∷ u
twice_at k t u e = by_byte (past_byte k t) refl e
  where
    by_byte : (o : Option Text) → past_byte k t ≡ o → if_eaten o (past_byte k) None ≡ Some u → t ≡ k ∷ k ∷ u
    by_byte None is e = cc
    by_byte (Some v) is e = byte_at k t v is ∙ ap (λ y. k ∷ y) (byte_at k v u e)

joiner_sound : (t u : Text) (or : Bool) → joiner t ≡ Some (or, u) → t ≡ operator or ++ u
joiner_sound t u or e = by_or (past_twice 124 t) refl e
  where
    by_and : (o : Option Text) → past_twice 38 t ≡ o → if_eaten {R = Outcome Text Bool} o (λ v. Some (false, v)) None ≡ Some (or, u) → t ≡ operator or ++ u
    by_and None is e = cc
    by_and (Some v) is e = subst (λ y. t ≡ operator y ++ u) (left_of false or v u e) (twice_at 38 t v is ∙ ap (λ y. 38 ∷ 38 ∷ y) (right_of false or v u e))

    by_or : (o : Option Text) → past_twice 124 t ≡ o → if_eaten {R = Outcome Text Bool} o (λ v. Some (true, v)) (if_eaten (past_twice 38 t) (λ v. Some (false, v)) None) ≡ Some (or, u) → t ≡ operator or ++ u
    by_or None is e = by_and (past_twice 38 t) refl e
    by_or (Some v) is e = subst (λ y. t ≡ operator y ++ u) (left_of true or v u e) (twice_at 124 t v is ∙ ap (λ y. 124 ∷ 124 ∷ y) (right_of true or v u e))

joiner_is : (or : Bool) (u : Text) → joiner (operator or ++ u) ≡ Some (or, u)
joiner_is true u = refl
joiner_is false u = refl

joiner_none : (t : Text) → joiner t ≡ None → NoOperator t
joiner_none t e = λ or u x. never_some (sym e ∙ ap joiner x ∙ joiner_is or u)

none_joiner : (t : Text) → NoOperator t → joiner t ≡ None
none_joiner t n = by_joiner (joiner t) refl
  where
    by_joiner : (o : Outcome Text Bool) → joiner t ≡ o → o ≡ None
    by_joiner None is = refl
    by_joiner (Some o) is = absurd (n o.0 o.1 (joiner_sound t o.1 o.0 is))

operator_short : (p q : Place) (or : Bool) → IsOperator p q or → 1 + length q.text ≤ length p.text
operator_short p q true o = omega (arith, ap length o.1, ap (λ y. length y.text) o.2, after_short Blank p.text)
operator_short p q false o = omega (arith, ap length o.1, ap (λ y. length y.text) o.2, after_short Blank p.text)

abbrev with_joined : List Joined → Bool → Member → List Joined
with_joined found or m = found ++ joined or m.node ∷ []

-- a command that was joined, and what was found with it
record OneMore (IsBelow : Rule (List Chain)) (found : List Joined) (p q : Place) (js : List Joined) : Type 0 where
  pub one : Joined
  pub is_one : IsJoined IsBelow p q one
  pub value : js ≡ found ++ one ∷ []

join_sound : (below : Lists) (IsBelow : Rule (List Chain)) → Meets 0 below IsBelow
    → (found : List Joined) (or : Bool) (p o q : Place) (js : List Joined) → IsOperator p o or → join below found or o ≡ Some (js, q) → OneMore IsBelow found p q js
unfolding join
join_sound below IsBelow k found or p o q js is e = by_lines (newlines o) refl e
  where
    by_lines : (l : Option Place) → newlines o ≡ l → if_eaten l (λ r. and_then (command below r) (λ m. pure (with_joined found or m))) None ≡ Some (js, q) → OneMore IsBelow found p q js
    by_lines None n e = cc
    by_lines (Some r) n e =
        let w = both_of (command below r) (λ m. pure (with_joined found or m)) (js, q) e in
        let v = left_of (with_joined found or w.first) js w.left q w.is_second in
        let l = right_of (with_joined found or w.first) js w.left q w.is_second in
        record {
          one = joined or w.first.node;
          is_one = record {
            operator_end = o;
            lines_end = r;
            or = or;
            command = w.first;
            is_operator = is;
            are_lines = lines_sound o r n;
            is_command = (command_meets below IsBelow k).sound r q w.first (w.is_first ∙ ap (λ y. Some (w.first, y)) l);
            value = refl;
          };
          value = sym v;
        }

join_whole : (below : Lists) (IsBelow : Rule (List Chain)) → Meets 0 below IsBelow
    → (found : List Joined) (p q : Place) (j : Joined) → (i : IsJoined IsBelow p q j) → join below found i.or i.operator_end ≡ Some (found ++ j ∷ [], q)
unfolding join
join_whole below IsBelow k found p q j i =
    ap (λ l. if_eaten l (λ r. and_then (command below r) (λ m. pure (with_joined found i.or m))) None) (lines_whole i.operator_end i.lines_end i.are_lines)
    ∙ ap (λ y. and_then y (λ m. pure (with_joined found i.or m))) ((command_meets below IsBelow k).whole i.lines_end q i.command i.is_command)
    ∙ ap (λ y. Some (found ++ y ∷ [], q)) (sym i.value)

join_short : (below : Lists) (IsBelow : Rule (List Chain)) → Meets 0 below IsBelow
    → (p q : Place) (j : Joined) → IsJoined IsBelow p q j → 1 + length q.text ≤ length p.text
join_short below IsBelow k p q j i =
    omega (arith, operator_short p i.operator_end i.or i.is_operator, lines_shorter i.operator_end i.lines_end i.are_lines, (command_meets below IsBelow k).short i.lines_end q i.command i.is_command)

-- the values that were found, and those behind them
record Behind {A : Type 0} (R : List A → Type 0) (found all : List A) : Type 0 where
  pub more : List A
  pub are : R more
  pub value : all ≡ found ++ more

others_sound : (below : Lists) (IsBelow : Rule (List Chain)) → Meets 0 below IsBelow
    → (n : ℕ) (found : List Joined) (p q : Place) (js : List Joined) → others below n found p ≡ Some (js, q) → Behind (AreJoined IsBelow p q) found js
unfolding others
others_sound below IsBelow k zero found p q js e = cc
others_sound below IsBelow k (suc n) found p q js e = by_joiner (joiner (past_blanks p).text) refl e (λ f y w. others_sound below IsBelow k n f y q js w)
  where
    by_joiner : (o : Outcome Text Bool) → joiner (past_blanks p).text ≡ o → others_by (λ or r. and_then (join below found or r) (others below n)) found (past_blanks p) o ≡ Some (js, q)
        → ((f : List Joined) (y : Place) → others below n f y ≡ Some (js, q) → Behind (AreJoined IsBelow y q) f js) → Behind (AreJoined IsBelow p q) found js
    by_joiner None is e rec =
        let l = right_of found js (past_blanks p) q e in
        record { more = []; are = (sym l, joiner_none q.text (ap (λ y. joiner y.text) (sym l) ∙ is)); value = sym (left_of found js (past_blanks p) q e) ∙ sym (append-nil found) }
    by_joiner (Some o) is e rec =
        let w = both_of (join below found o.0 (at_text (past_blanks p) o.1)) (others below n) (js, q) e in
        let j = join_sound below IsBelow k found o.0 p (at_text p o.1) w.left w.first (o.1, joiner_sound (past_blanks p).text o.1 o.0 is, refl) w.is_first in
        let m = rec w.first w.left w.is_second in
        record { more = j.one ∷ m.more; are = (w.left, j.is_one, m.are); value = m.value ∙ ap (λ y. y ++ m.more) j.value ∙ append_assoc found (j.one ∷ []) m.more }

others_whole : (below : Lists) (IsBelow : Rule (List Chain)) → Meets 0 below IsBelow
    → (js : List Joined) (n : ℕ) (found : List Joined) (p q : Place) → length p.text < n → AreJoined IsBelow p q js → others below n found p ≡ Some (found ++ js, q)
unfolding others
others_whole below IsBelow k js zero found p q le a = absurd (omega (arith, le))
others_whole below IsBelow k [] (suc n) found p q le a =
    ap (others_by (λ or r. and_then (join below found or r) (others below n)) found (past_blanks p)) (ap (λ y. joiner y.text) (sym a.0) ∙ none_joiner q.text a.1)
    ∙ pair found (found ++ []) (past_blanks p) q (sym (append-nil found)) (sym a.0)
others_whole below IsBelow k (j ∷ js) (suc n) found p q le a =
    let i = a.1 in
    ap (others_by (λ or r. and_then (join below found or r) (others below n)) found (past_blanks p)) (ap joiner i.is_operator.1 ∙ joiner_is i.or i.is_operator.0)
    ∙ ap (λ y. and_then (join below found i.or y) (others below n)) (sym i.is_operator.2)
    ∙ ap (λ y. and_then y (others below n)) (join_whole below IsBelow k found p a.0 j i)
    ∙ others_whole below IsBelow k js n (found ++ j ∷ []) a.0 q (omega (arith, le, join_short below IsBelow k p a.0 j i)) a.2
    ∙ ap (λ y. Some (y, q)) (append_assoc found (j ∷ []) js)

others_short : (below : Lists) (IsBelow : Rule (List Chain)) → Meets 0 below IsBelow
    → (js : List Joined) (p q : Place) → AreJoined IsBelow p q js → length q.text ≤ length p.text
others_short below IsBelow k [] p q a = omega (arith, ap (λ y. length y.text) a.0, after_short Blank p.text)
others_short below IsBelow k (j ∷ js) p q a = omega (arith, join_short below IsBelow k p a.0 j a.1, others_short below IsBelow k js a.0 q a.2)

abbrev rest_of : Lists → Place → Member → Place → Outcome Place Item
rest_of below p m q = and_then (others below (length p.text) [] q) (λ rest. pure (item_of m rest))

pub item_meets : (below : Lists) (IsBelow : Rule (List Chain)) → Meets 0 below IsBelow → Meets 1 (chain below) (IsItem IsBelow)
unfolding chain
item_meets below IsBelow k = record { sound = sound; whole = whole; short = short }
  where
    sound : (p q : Place) (i : Item) → chain below p ≡ Some (i, q) → IsItem IsBelow p q i
    sound p q i e =
        let w = both_of (command below p) (rest_of below p) (i, q) e in
        let v = both_of (others below (length p.text) [] w.left) (λ rest. pure (item_of w.first rest)) (i, q) w.is_second in
        let l = right_of (item_of w.first v.first) i v.left q v.is_second in
        let o = others_sound below IsBelow k (length p.text) [] w.left q v.first (v.is_first ∙ ap (λ y. Some (v.first, y)) l) in
        record {
          first_end = w.left;
          first = w.first;
          rest = o.more;
          is_first = (command_meets below IsBelow k).sound p w.left w.first w.is_first;
          are_rest = o.are;
          value = sym (left_of (item_of w.first v.first) i v.left q v.is_second) ∙ ap (item_of w.first) o.value;
        }

    whole : (p q : Place) (i : Item) → IsItem IsBelow p q i → chain below p ≡ Some (i, q)
    whole p q i x =
        let c = command_meets below IsBelow k in
        ap (λ o. and_then o (rest_of below p)) (c.whole p x.first_end x.first x.is_first)
        ∙ ap (λ o. and_then o (λ rest. pure (item_of x.first rest))) (others_whole below IsBelow k x.rest (length p.text) [] x.first_end q (omega (arith, c.short p x.first_end x.first x.is_first)) x.are_rest)
        ∙ ap (λ y. Some (y, q)) (sym x.value)

    short : (p q : Place) (i : Item) → IsItem IsBelow p q i → 1 + length q.text ≤ length p.text
    short p q i x = omega (arith, (command_meets below IsBelow k).short p x.first_end x.first x.is_first, others_short below IsBelow k x.rest x.first_end q x.are_rest)

-- ---- lists

pub end_sound : (p q : Place) → past_end p ≡ Some q → IsItemEnd p q
end_sound p q e = by_semi (past_byte 59 p.text) refl e
  where
    by_semi : (o : Option Text) → past_byte 59 p.text ≡ o → if_eaten o (λ t. Some (at_text p t)) (past_newline p) ≡ Some q → IsItemEnd p q
    by_semi None is e = inl (newline_sound p q e)
    by_semi (Some t) is e = inr (t, byte_at 59 p.text t is, sym (inner (at_text p t) q e))

end_whole : (p q : Place) → IsItemEnd p q → past_end p ≡ Some q
end_whole p q (inl x) = ap (λ t. if_eaten (past_byte 59 t) (λ u. Some (at_text p u)) (past_newline p)) x.1 ∙ newline_whole p q x
end_whole p q (inr x) = ap (λ t. if_eaten (past_byte 59 t) (λ u. Some (at_text p u)) (past_newline p)) x.1 ∙ ap (λ y. Some y) (sym x.2)

pub end_short : (p q : Place) → IsItemEnd p q → 1 + length q.text ≤ length p.text
end_short p q (inl x) = omega (arith, newline_short p q (newline_whole p q x))
end_short p q (inr x) = omega (arith, ap length x.1, ap (λ y. length y.text) x.2)

pub ended_at_end : (IsBelow : Rule (List Chain)) (p q : Place) (i : Item) → (x : IsEnded IsBelow p q i) → past_end (past_gap x.item_end) ≡ Some q
ended_at_end IsBelow p q i x = end_whole (past_gap x.item_end) q x.is_end

pub ended_short : (below : Lists) (IsBelow : Rule (List Chain)) → Meets 0 below IsBelow
    → (p q : Place) (i : Item) → IsEnded IsBelow p q i → 2 + length q.text ≤ length p.text
ended_short below IsBelow k p q i x =
    omega (arith, lines_shorter p x.start x.are_lines, (item_meets below IsBelow k).short x.start x.item_end i x.is_item, end_short (past_gap x.item_end) q x.is_end, gap_short x.item_end.text)

-- where another word stands, this one doesn't
other_byte : (c j k : ℕ) → (c == k) ≡ true → (j == k) ≡ false → (c == j) ≡ false
other_byte c j k e n = grind (arith, nat_tests)

other_word : (j k : ℕ) (js ks t u : Text) → past (k ∷ ks) t ≡ Some u → (j == k) ≡ false → sees (j ∷ js) t ≡ false
other_word j k js ks [] u e n = cc
other_word j k js ks (c ∷ t) u e n = by_byte (c == k) refl e
  where
    by_byte : (v : Bool) → (c == k) ≡ v → (if v then past ks t else None) ≡ Some u → sees (j ∷ js) (c ∷ t) ≡ false
    by_byte true is e = ap (λ v. is_some (if v then past js t else None)) (other_byte c j k is n)
    by_byte false is e = cc

none_of : (a b c : Bool) → a ≡ false → b ≡ false → c ≡ false → a || (b || c) ≡ false
none_of a b c e f g = ap (λ x. x || (b || c)) e ∙ ap (λ x. x || c) f ∙ g

if_closes : (t u : Text) → past (codes "if") t ≡ Some u → closes t ≡ false
if_closes t u e =
    none_of (sees (codes "then") t) (sees (codes "else") t) (sees (codes "fi") t)
    (other_word 116 105 (104 ∷ 101 ∷ 110 ∷ []) (102 ∷ []) t u e refl) (other_word 101 105 (108 ∷ 115 ∷ 101 ∷ []) (102 ∷ []) t u e refl) (other_word 102 105 (105 ∷ []) (102 ∷ []) t u e refl)

last_of : (a b c : Bool) → a || b ≡ false → b ≡ false
last_of true b c e = cc
last_of false b c e = e

not_reserved : (t : Text) → is_reserved t ≡ false → closes t ≡ false
unfolding is_reserved
not_reserved t e = by_keyword (is_keyword t) refl e
  where
    by_keyword : (v : Bool) → is_keyword t ≡ v → v || (is_loop t || is_left_out t) ≡ false → closes t ≡ false
    by_keyword true is e = cc
    by_keyword false is e = last_of (sees (codes "if") t) (closes t) false is

item_begins : (below : Lists) (IsBelow : Rule (List Chain)) → Meets 0 below IsBelow → (p q : Place) (i : Item) → IsItem IsBelow p q i → closes p.text ≡ false
item_begins below IsBelow k p q i x = by_command x.is_first
  where
    by_command : IsCommand IsBelow p x.first_end x.first → closes p.text ≡ false
    by_command (inl c) = not_reserved p.text c.is_simple.not_reserved
    by_command (inr c) = if_closes p.text c.is_if.is_if.0 (past_keyword (codes "if") p c.is_if.if_end c.is_if.is_if)

abbrev with_chain : List Chain → Item → Place → Outcome Place (List Chain)
with_chain found c q = and_then (ended (past_gap q)) (λ _. pure (found ++ c.chain ∷ []))

abbrev at_item : Lists → ℕ → List Chain → Place → Outcome Place (List Chain)
at_item below n found q = if closes q.text then Some (found, q) else and_then (next_item below found q) (items_from below n)

record OneItem (IsBelow : Rule (List Chain)) (found : List Chain) (p q : Place) (cs : List Chain) : Type 0 where
  pub one : Item
  pub is_one : IsEnded IsBelow p q one
  pub value : cs ≡ found ++ one.chain ∷ []

next_sound : (below : Lists) (IsBelow : Rule (List Chain)) → Meets 0 below IsBelow
    → (found : List Chain) (p r q : Place) (cs : List Chain) → newlines p ≡ Some r → next_item below found r ≡ Some (cs, q) → OneItem IsBelow found p q cs
unfolding next_item
next_sound below IsBelow k found p r q cs l e =
    let w = both_of (chain below r) (with_chain found) (cs, q) e in
    let o = past_end (past_gap w.left) in
    record {
      one = w.first;
      is_one = record {
        start = r;
        item_end = w.left;
        are_lines = lines_sound p r l;
        is_item = (item_meets below IsBelow k).sound r w.left w.first w.is_first;
        is_end = end_sound (past_gap w.left) q (some_end o q cs (found ++ w.first.chain ∷ []) w.is_second);
      };
      value = some_turn o q cs (found ++ w.first.chain ∷ []) w.is_second;
    }

next_whole : (below : Lists) (IsBelow : Rule (List Chain)) → Meets 0 below IsBelow
    → (found : List Chain) (p q : Place) (i : Item) → (x : IsEnded IsBelow p q i) → next_item below found x.start ≡ Some (found ++ i.chain ∷ [], q)
unfolding next_item
next_whole below IsBelow k found p q i x =
    ap (λ o. and_then o (with_chain found)) ((item_meets below IsBelow k).whole x.start x.item_end i x.is_item)
    ∙ ap (λ o. and_then (eaten o) (λ _. pure (found ++ i.chain ∷ []))) (ended_at_end IsBelow p q i x)

items_sound : (below : Lists) (IsBelow : Rule (List Chain)) → Meets 0 below IsBelow
    → (n : ℕ) (found : List Chain) (p q : Place) (cs : List Chain) → items_from below n found p ≡ Some (cs, q) → Behind (AreItems IsBelow p q) found cs
unfolding items_from
items_sound below IsBelow k zero found p q cs e = cc
items_sound below IsBelow k (suc n) found p q cs e = by_lines (newlines p) refl e (λ f y w. items_sound below IsBelow k n f y q cs w)
  where
    by_closes : (r : Place) → newlines p ≡ Some r → (v : Bool) → closes r.text ≡ v → (if v then Some (found, r) else and_then (next_item below found r) (items_from below n)) ≡ Some (cs, q)
        → ((f : List Chain) (y : Place) → items_from below n f y ≡ Some (cs, q) → Behind (AreItems IsBelow y q) f cs) → Behind (AreItems IsBelow p q) found cs
    by_closes r l true is e rec =
        let t = right_of found cs r q e in
        record { more = []; are = (lines_sound p q (l ∙ ap (λ y. Some y) t), ap (λ y. closes y.text) (sym t) ∙ is); value = sym (left_of found cs r q e) ∙ sym (append-nil found) }
    by_closes r l false is e rec =
        let w = both_of (next_item below found r) (items_from below n) (cs, q) e in
        let o = next_sound below IsBelow k found p r w.left w.first l w.is_first in
        let m = rec w.first w.left w.is_second in
        record { more = o.one.chain ∷ m.more; are = (w.left, o.one, o.is_one, refl, m.are); value = m.value ∙ ap (λ y. y ++ m.more) o.value ∙ append_assoc found (o.one.chain ∷ []) m.more }

    by_lines : (o : Option Place) → newlines p ≡ o → if_eaten o (at_item below n found) None ≡ Some (cs, q)
        → ((f : List Chain) (y : Place) → items_from below n f y ≡ Some (cs, q) → Behind (AreItems IsBelow y q) f cs) → Behind (AreItems IsBelow p q) found cs
    by_lines None l e rec = cc
    by_lines (Some r) l e rec = by_closes r l (closes r.text) refl e rec

not_empty : (t : Text) → closes t ≡ true → 1 ≤ length t
not_empty [] e = cc
not_empty (c ∷ t) e = omega arith

items_whole : (below : Lists) (IsBelow : Rule (List Chain)) → Meets 0 below IsBelow
    → (cs : List Chain) (n : ℕ) (found : List Chain) (p q : Place) → length p.text ≤ n → AreItems IsBelow p q cs → items_from below n found p ≡ Some (found ++ cs, q)
unfolding items_from
items_whole below IsBelow k [] zero found p q le a = absurd (omega (arith, le, lines_shorter p q a.0, not_empty q.text a.1))
items_whole below IsBelow k [] (suc n) found p q le a =
    ap (λ o. if_eaten o (at_item below n found) None) (lines_whole p q a.0)
    ∙ ap (λ v. if v then Some (found, q) else and_then (next_item below found q) (items_from below n)) a.1
    ∙ ap (λ y. Some (y, q)) (sym (append-nil found))
items_whole below IsBelow k (c ∷ cs) zero found p q le a = absurd (omega (arith, le, ended_short below IsBelow k p a.0 a.1 a.2))
items_whole below IsBelow k (c ∷ cs) (suc n) found p q le a =
    let x = a.2 in
    ap (λ o. if_eaten o (at_item below n found) None) (lines_whole p x.start x.are_lines)
    ∙ ap (λ v. if v then Some (found, x.start) else and_then (next_item below found x.start) (items_from below n)) (item_begins below IsBelow k x.start x.item_end a.1 x.is_item)
    ∙ ap (λ o. and_then o (items_from below n)) (next_whole below IsBelow k found p a.0 a.1 x)
    ∙ items_whole below IsBelow k cs n (found ++ a.1.chain ∷ []) a.0 q (omega (arith, le, ended_short below IsBelow k p a.0 a.1 x)) a.4
    ∙ ap (λ y. Some (y, q)) (append_assoc found (a.1.chain ∷ []) cs ∙ ap (λ y. found ++ y ∷ cs) (sym a.3))

items_short : (below : Lists) (IsBelow : Rule (List Chain)) → Meets 0 below IsBelow
    → (cs : List Chain) (p q : Place) → AreItems IsBelow p q cs → length q.text ≤ length p.text
items_short below IsBelow k [] p q a = lines_shorter p q a.0
items_short below IsBelow k (c ∷ cs) p q a = omega (arith, ended_short below IsBelow k p a.0 a.1 a.2, items_short below IsBelow k cs a.0 q a.4)

abbrev not_nil : List Chain → Place → Outcome Place (List Chain)
not_nil found q = if is_nil found then None else Some (found, q)

nil_none : (found cs : List Chain) (r q : Place) → not_nil found r ≡ Some (cs, q) → IsSome found × (found ≡ cs) × (r ≡ q)
nil_none [] cs r q e = cc
nil_none (c ∷ found) cs r q e = (tt, left_of (c ∷ found) cs r q e, right_of (c ∷ found) cs r q e)

is_not_nil : (cs : List Chain) (q : Place) → IsSome cs → not_nil cs q ≡ Some (cs, q)
is_not_nil [] q s = absurd s
is_not_nil (c ∷ cs) q s = refl

pub list_meets : (d : ℕ) → Meets 0 (list d) (IsList d)
unfolding list items
list_meets zero = record { sound = λ p q cs e. cc; whole = λ p q cs x. absurd x; short = λ p q cs x. absurd x }
list_meets (suc d) = by_below (list_meets d)
  where
    by_below : Meets 0 (list d) (IsList d) → Meets 0 (list (suc d)) (IsList (suc d))
    by_below k = record {
      sound = λ p q cs e.
          let w = both_of (items_from (list d) (length p.text) [] p) not_nil (cs, q) e in
          let n = nil_none w.first cs w.left q w.is_second in
          let b = items_sound (list d) (IsList d) k (length p.text) [] p q cs (w.is_first ∙ ap₂ (λ x y. Some (x, y)) n.1 n.2) in
          (subst IsSome n.1 n.0, subst (AreItems (IsList d) p q) (sym b.value) b.are);
      whole = λ p q cs x.
          ap (λ o. and_then o not_nil) (items_whole (list d) (IsList d) k cs (length p.text) [] p q (omega arith) x.1) ∙ is_not_nil cs q x.0;
      short = λ p q cs x. omega (arith, items_short (list d) (IsList d) k cs p q x.1);
    }
