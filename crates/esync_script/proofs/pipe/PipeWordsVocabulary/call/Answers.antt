use Rattle.std.proofs.Common.{refl}
use Rattle.esync_words.specs.WordsLaws.{not_text}
use Rattle.esync_script.proofs.pipe.PipeWordsVocabulary.call.Goals as goal

pub returns-in_default : goal.returns-in_default
returns-in_default g c = rw (not_text _ _ c.in_default.not-text, not_text _ _ c.in_default.not-text-2, not_text _ _ c.in_default.not-text-3, not_text _ _ c.in_default.not-consume, not_text _ _ c.in_default.not-clear, not_text _ _ c.in_default.not-len, not_text _ _ c.in_default.not-free) refl
