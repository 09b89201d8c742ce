use Rattle.std.proofs.Common.{sym, ◌∙◌, ap, arith}
use Rattle.esync_words.specs.declared.fault.Fault.TheVariants.{NotACommand}
use Rattle.esync_words.proofs.Played.{says_words, no_line, bad_line, good_line, handed_on}
use Rattle.esync_words.proofs.Known.{appends_kept_before}
use Rattle.esync_words.proofs.play.open.Goals as goal

pub returns-then-not-branch-clause-err : goal.returns-then-not-branch-clause-err
returns-then-not-branch-clause-err g c j = record {
  is_line = c.not_a_command.ensures ∙ ap NotACommand (rw c.requires at c.read.ensures.number);
  read = no_line g.R.ByteSource.longest g.O.Opens.opens c.read.new.self _ _ c.in_ok-read.ensures.line c.if-not-branch.true;
  printed = c.read.ensures.output;
}

pub returns-in_err-line-clause-err : goal.returns-in_err-line-clause-err
returns-in_err-line-clause-err g c =
    rw (handed_on c.from_residual-in_err-line.result c.in_err-line.field-0.0 c.from_residual-in_err-line.ensures) (λ j. record {
      is_line = c.in_err-line.ensures.0 ∙ ap NotACommand (rw c.requires at c.read.ensures.number);
      read = bad_line g.R.ByteSource.longest g.O.Opens.opens c.read.new.self _ _ c.in_ok-read.ensures.line c.if-not-branch.false c.in_err-line.ensures.1;
      printed = c.read.ensures.output;
    })

pub returns-clause-ok : goal.returns-clause-ok
returns-clause-ok g c =
    let l = c.in_ok-line.ensures in
    let said = sym c.read_opening.ensures ∙ c.in-Some.is in
    record {
      line = c.in_ok-line.line.now;
      said = says_words g.R.ByteSource.longest g.O.Opens.opens c.in_ok-line.line.now l.1 l.2 ∙ rw c.of.ensures at said;
      read = good_line g.R.ByteSource.longest g.O.Opens.opens c.read.new.self _ _ c.in_ok-read.ensures.line c.if-not-branch.false c.in_ok-line.line.now l.0 l.2;
      printed = appends_kept_before _ _ _ _ c.read.ensures.output c.in_ok-open.ensures.ok;
      noted = c.in_ok-open.ensures.noted (let few = g.R.ByteSource.a_line_has_room in let most = l.2 in omega arith);
    }
