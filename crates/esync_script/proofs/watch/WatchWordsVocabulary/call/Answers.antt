use Rattle.esync_words.specs.WordsLaws.{not_text}
use Rattle.esync_script.proofs.watch.WatchWordsVocabulary.call.Goals as goal

pub returns-in_default : goal.returns-in_default
returns-in_default g c = rw (not_text _ _ c.in_default.not-receiver, not_text _ _ c.in_default.not-anon, not_text _ _ c.in_default.not-leave, not_text _ _ c.in_default.not-clear, not_text _ _ c.in_default.not-send, not_text _ _ c.in_default.not-modify, not_text _ _ c.in_default.not-text, not_text _ _ c.in_default.not-text-2, not_text _ _ c.in_default.not-id, not_text _ _ c.in_default.not-contains, ← c.bits-in_default.ensures) c.read_call.ensures
