use Rattle.std.proofs.Common.{refl}
use Rattle.esync_words.specs.WordsLaws.{not_text}
use Rattle.esync_script.proofs.pubsub.PubSubWordsVocabulary.call.Goals as goal

pub returns-in_default : goal.returns-in_default
returns-in_default g c = rw (not_text _ _ c.in_default.not-join, not_text _ _ c.in_default.not-leave, not_text _ _ c.in_default.not-publisher, not_text _ _ c.in_default.not-retire, not_text _ _ c.in_default.not-text, not_text _ _ c.in_default.not-immediate, not_text _ _ c.in_default.not-next, not_text _ _ c.in_default.not-text-2, not_text _ _ c.in_default.not-available, not_text _ _ c.in_default.not-clear, not_text _ _ c.in_default.not-len, not_text _ _ c.in_default.not-free) refl
