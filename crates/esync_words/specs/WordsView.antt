-- The words that are left of a line.
use Rattle.std.specs.Prelude.{ℕ, List, [], Option, Some, None}
use denote.Ref.{Bor}
use Rattle.esync_words.specs.Words.{words_of}

abbrev pub words_left : Option (Bor (List ℕ)) → List (List ℕ)
words_left None = []
words_left (Some rest) = words_of rest.now
