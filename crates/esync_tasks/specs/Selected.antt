-- One of two futures, and the output of one of two.
use Rattle.esync_tasks.specs.declared.future.selected.Either.{Either}
use Rattle.esync_tasks.specs.declared.future.selected.Either.TheVariants.{First, Second}

-- the output is one that the first future may give, or one that the second may give
abbrev pub Gives : {X Y : Type 0} → (X → Type 0) → (Y → Type 0) → Either X Y → Type 0
Gives first second (First x) = first x
Gives first second (Second y) = second y

-- P holds of a first value, or Q of a second value
abbrev pub IsEither : {A B : Type 0} → (A → Type 0) → (B → Type 0) → Either A B → Type 0
IsEither P Q (First a) = P a
IsEither P Q (Second b) = Q b

-- the future that an Either has may give the output
abbrev pub EitherGives : {A B X : Type 0} → (A → X → Type 0) → (B → X → Type 0) → Either A B → X → Type 0
EitherGives P Q (First a) x = P a x
EitherGives P Q (Second b) x = Q b x
