use Rattle.std.proofs.Common.{sym, ◌∙◌}
use Rattle.esync_words.specs.Commands.{command}
use Rattle.esync_words.proofs.Played.{nothing_so_far, more_so_far, kept_so_far, ends_so, ends_untold, handed_on, says_words, at_end, unreadable, unsaid}
use Rattle.esync_words.proofs.play.play.Goals as goal

pub loop-init : goal.loop-init
loop-init g c = nothing_so_far

pub returns-in_err-read-clause-played : goal.returns-in_err-read-clause-played
returns-in_err-read-clause-played g c =
    let o = handed_on c.from_residual.result c.in_err-read.field-0.0 c.from_residual.ensures in
    rw (o, c.in_err-read.ensures.err) (ends_so (kept_so_far c.loop.invariant _ c.read.ensures.output) g.met.M.Machine.idle (λ r e. tt))

pub returns-then-not-branch-clause-played : goal.returns-then-not-branch-clause-played
returns-then-not-branch-clause-played g c =
    ends_so (kept_so_far c.loop.invariant _ c.read.ensures.output) g.met.M.Machine.idle (at_end g.R.ByteSource.longest c.read.new.self _ _ c.in_ok-read.ensures.line c.if-not-branch.true)

pub returns-in_err-line-clause-played : goal.returns-in_err-line-clause-played
returns-in_err-line-clause-played g c =
    let o = handed_on c.from_residual-in_err-line.result c.in_err-line.field-0.0 c.from_residual-in_err-line.ensures in
    rw (o, c.in_err-line.ensures.0) (ends_so (kept_so_far c.loop.invariant _ c.read.ensures.output) g.met.M.Machine.idle (λ r e.
    let u = unreadable g.R.ByteSource.longest (command g.V.Vocabulary.asks g.V.Vocabulary.calls) c.read.new.self _ _ c.in_ok-read.ensures.line c.if-not-branch.false c.in_err-line.ensures.1 r e in
    (c.read.ensures.number, u.0, u.1)))

pub returns-in_default-clause-played : goal.returns-in_default-clause-played
returns-in_default-clause-played g c =
    let l = c.in_ok-line.ensures in
    let none = sym c.read_command.ensures ∙ c.in_default.is in
    rw c.not_a_command.ensures (ends_so (kept_so_far c.loop.invariant _ c.read.ensures.output) g.met.M.Machine.idle (λ r e.
    let u = unsaid g.R.ByteSource.longest (command g.V.Vocabulary.asks g.V.Vocabulary.calls) c.read.new.self _ _ c.in_ok-read.ensures.line c.if-not-branch.false c.in_ok-line.line.now l.0 l.1 l.2 (rw c.of.ensures at none) r e in
    (c.read.ensures.number, u.0, u.1)))

pub returns-in_err-tell-clause-played : goal.returns-in_err-tell-clause-played
returns-in_err-tell-clause-played g c =
    let l = c.in_ok-line.ensures in
    let o = handed_on c.from_residual-in_err-tell.result c.in_err-tell.field-0.0 c.from_residual-in_err-tell.ensures in
    let said = says_words g.R.ByteSource.longest (command g.V.Vocabulary.asks g.V.Vocabulary.calls) c.in_ok-line.line.now l.1 l.2 ∙ rw c.of.ensures at (sym c.read_command.ensures ∙ c.in-Some.is) in
    rw o (ends_untold (kept_so_far c.loop.invariant _ c.read.ensures.output) g.R.ByteSource.longest c.read.new.self c.in_ok-line.line.now c.in_ok-read.ensures.line c.if-not-branch.false l.0 l.2 said c.step-reply.ensures g.met.M.Machine.idle c.in_err-tell.ensures.err)

pub loop-preserved : goal.loop-preserved
loop-preserved g c =
    let l = c.in_ok-line.ensures in
    let said = says_words g.R.ByteSource.longest (command g.V.Vocabulary.asks g.V.Vocabulary.calls) c.in_ok-line.line.now l.1 l.2 ∙ rw c.of.ensures at (sym c.read_command.ensures ∙ c.in-Some.is) in
    more_so_far (kept_so_far c.loop.invariant _ c.read.ensures.output) g.R.ByteSource.longest c.read.new.self c.in_ok-line.line.now c.in_ok-read.ensures.line c.if-not-branch.false l.0 l.2 said c.step-reply.ensures _ c.read.ensures.number (rw (← c.number-number.ensures, ← c.given_by-giver.ensures, ← c.answer.ensures, ← c.wakers.ensures) c.in_ok-tell.ensures.ok) (c.in_ok-look.ensures.noted ∙ rw (← c.given_by-giver.ensures, ← c.answer.ensures, ← c.wakers.ensures) c.in_ok-tell.ensures.noted)

pub returns-clause-played : goal.returns-clause-played
returns-clause-played g c = ends_so c.loop.invariant g.met.M.Machine.idle (λ r e. tt)

pub returns-in_err-look-clause-played : goal.returns-in_err-look-clause-played
returns-in_err-look-clause-played g c =
    let l = c.in_ok-line.ensures in
    let o = handed_on c.from_residual-in_err-look.result c.in_err-look.field-0.0 c.from_residual-in_err-look.ensures in
    let said = says_words g.R.ByteSource.longest (command g.V.Vocabulary.asks g.V.Vocabulary.calls) c.in_ok-line.line.now l.1 l.2 ∙ rw c.of.ensures at (sym c.read_command.ensures ∙ c.in-Some.is) in
    rw o (ends_untold (kept_so_far c.loop.invariant _ c.read.ensures.output) g.R.ByteSource.longest c.read.new.self c.in_ok-line.line.now c.in_ok-read.ensures.line c.if-not-branch.false l.0 l.2 said c.step-reply.ensures g.met.M.Machine.idle c.in_err-look.ensures.err)
