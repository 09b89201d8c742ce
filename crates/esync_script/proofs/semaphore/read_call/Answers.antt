use Rattle.std.proofs.Common.{refl}
use Rattle.esync_words.specs.WordsLaws.{not_text}
use Rattle.esync_script.proofs.semaphore.read_call.Goals as goal

pub returns-in_default : goal.returns-in_default
returns-in_default c = rw (not_text _ _ c.in_default.not-try, not_text _ _ c.in_default.not-text, not_text _ _ c.in_default.not-disarm, not_text _ _ c.in_default.not-release, not_text _ _ c.in_default.not-set, not_text _ _ c.in_default.not-permits) refl
