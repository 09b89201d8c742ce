use Rattle.std.proofs.Common.{◌≡◌, ◌≤◌, ◌-◌, ◌++◌, length}
use denote.Text.{Utf8}
use denote.Shadow.{shadow}
use Rattle.std.specs.Option.{option_map}
use Rattle.esync_words.specs.Words.{parts_of, numbers}
use Rattle.esync_words.proofs.words.read_list.Given as goal

abbrev pub invariant-loop-rest : goal.invariant-loop-rest
invariant-loop-rest l = record {
  text : shadow (Utf8 l.rest);
  few : length l.bytes.items ≤ l.fn.most;
  read : numbers 8 (parts_of 44 l.fn.word) ≡ option_map (λ ns. l.bytes.items ++ ns) (numbers 8 (parts_of 44 l.rest));
}

abbrev pub decreases-loop-rest : goal.decreases-loop-rest
decreases-loop-rest l = l.fn.most - length l.bytes.items
