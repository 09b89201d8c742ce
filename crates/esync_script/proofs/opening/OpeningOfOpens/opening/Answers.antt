use Rattle.std.proofs.Common.{refl}
use Rattle.esync_words.specs.WordsLaws.{not_text}
use Rattle.esync_script.proofs.opening.OpeningOfOpens.opening.Goals as goal

pub returns-in_default : goal.returns-in_default
returns-in_default g c = rw (not_text _ _ c.in_default.not-channel, not_text _ _ c.in_default.not-max, not_text _ _ c.in_default.not-min, not_text _ _ c.in_default.not-signal, not_text _ _ c.in_default.not-greedy, not_text _ _ c.in_default.not-fair, not_text _ _ c.in_default.not-pipe, not_text _ _ c.in_default.not-pubsub, not_text _ _ c.in_default.not-once, not_text _ _ c.in_default.not-lazy, not_text _ _ c.in_default.not-zerocopy, not_text _ _ c.in_default.not-mutex, not_text _ _ c.in_default.not-watch) refl
