use Rattle.ap_shparse.proofs.lists.+list.Given as goal

abbrev pub decreases-list : goal.decreases-list
decreases-list l = l.depth
