use Rattle.std.proofs.Common.{refl}
use Rattle.esync_words.specs.WordsLaws.{not_text}
use Rattle.esync_script.proofs.pubsub.PubSubWordsVocabulary.ask.Goals as goal

pub returns-in_default : goal.returns-in_default
returns-in_default g c = rw (not_text _ _ c.in_default.not-publish, not_text _ _ c.in_default.not-message, not_text _ _ c.in_default.not-text, not_text _ _ c.in_default.not-stream) refl
