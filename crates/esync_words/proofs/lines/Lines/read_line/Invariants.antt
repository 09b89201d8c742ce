use Rattle.std.proofs.Common.{◌≡◌, ◌+◌, ◌-◌, false, length}
use Rattle.std.specs.Io.KnownBytes.{Consumes}
use Rattle.esync_words.specs.Lines.{first_line}
use Rattle.esync_words.proofs.lines.Lines.read_line.Given as goal

abbrev pub invariant-loop-self : goal.invariant-loop-self
invariant-loop-self g l = record {
  consumed : Consumes l.fn.self.left (g.R.ByteSource.remaining l.self-inside.input) l.self-inside.line.items;
  plain : first_line l.self-inside.line.items ≡ l.self-inside.line.items;
  number : l.self-inside.number ≡ l.fn.self.number;
  more : l.self-inside.ended ≡ false;
}

abbrev pub decreases-loop-self : goal.decreases-loop-self
decreases-loop-self g l = g.R.ByteSource.longest + 1 - length l.self-inside.line.items
