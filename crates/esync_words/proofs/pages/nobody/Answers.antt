use Rattle.std.proofs.Common.{sym}
use Rattle.esync_words.specs.Diagram.{nobody_is}
use Rattle.esync_words.proofs.pages.nobody.Goals as goal

pub returns : goal.returns
returns g c = sym (nobody_is g.row.N)
