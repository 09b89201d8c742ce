use Rattle.std.proofs.Common.{◌≡◌, ℕ, List, ◌+◌, ◌-◌, ◌^◌, min, length}
use Rattle.esync_words.specs.Played.{Reads}
use Rattle.esync_check.proofs.difference.first_difference.Given as goal

abbrev pub invariant-loop-others : goal.invariant-loop-others
invariant-loop-others l = record {
  same : List (List ℕ);
  recorded : Reads l.recorded same l.others;
  given : Reads l.given same l.owns;
  line : l.line ≡ min (length same + 2) (2 ^ 64 - 1);
}

abbrev pub decreases-loop-others : goal.decreases-loop-others
decreases-loop-others l = length l.owns
