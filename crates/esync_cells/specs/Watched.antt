-- What a read of a shared watch finds, whatever the watch is when the lock is taken.
use Rattle.std.specs.Prelude.{◌≡◌, ℕ, Bool, true, false, Option, Some, None, Result, nat_lt, refl}
use Rattle.std.specs.Coded.{Coded, code_by, coded×, coded_ℕ}
use Rattle.esync_cells.specs.Watch.{found, Answers, seen_after}

-- what a test of the value may answer: false if there is no value
abbrev pub Tells : {T : Type 0} → (T → Bool → Type 0) → Option T → Bool → Type 0
Tells Says None shows = shows ≡ false
Tells Says (Some v) shows = Says v shows

-- what a test of the value may answer if there is news, and false if there is none
abbrev pub TellsIf : {T : Type 0} → Bool → (T → Bool → Type 0) → Option T → Bool → Type 0
TellsIf false Says value shows = shows ≡ false
TellsIf true Says value shows = Tells Says value shows

-- a read shows a value of any version
abbrev pub Always : {T : Type 0} → Option T → ℕ → Bool → Type 0
Always value version shows = shows ≡ true

-- a read shows a value if its version is newer than the seen one
abbrev pub WhereNewer : {T : Type 0} → ℕ → Option T → ℕ → Bool → Type 0
WhereNewer seen value version shows = shows ≡ nat_lt seen version

-- a read shows a value if it passes the test
abbrev pub WherePassing : {T : Type 0} → (T → Bool → Type 0) → Option T → ℕ → Bool → Type 0
WherePassing Says value version shows = Tells Says value shows

-- a read shows a value if it passes the test and its version is newer than the seen one
abbrev pub WhereNewPassing : {T : Type 0} → (T → Bool → Type 0) → ℕ → Option T → ℕ → Bool → Type 0
WhereNewPassing Says seen value version shows = TellsIf (nat_lt seen version) Says value shows

-- a read of some value and version, which may mark the version even if the read finds nothing
abbrev pub ReadsSome : {T E : Type 0} → (T → T → Type 0) → (T → Type 0) → (Option T → ℕ → Bool → Type 0) → (ℕ → Bool) → ℕ → Result (Option T) E → ℕ → Type 0
ReadsSome {T} IsClone IsInfallible Shows marks seen result after =
    (value : Option T) × (version : ℕ) × (shows : Bool)
    × Shows value version shows × Answers IsClone IsInfallible (found shows value) result × (after ≡ seen_after (marks version) version seen result)

-- a reader of a watch: the version that it has seen
pub record Reader : Type 0 where
  pub seen : ℕ

-- a reader that waits for what it seeks
pub record Seeking (S : Type 0) : Type 0 where
  pub sought : S
  pub seen : ℕ

abbrev pub seeking_code : {S : Type 0} → Coded S → Coded (Seeking S)
seeking_code {S} s = code_by (S × ℕ) (coded× s coded_ℕ) (λ r. (r.sought, r.seen)) (λ p. record { sought = p.0; seen = p.1 }) (λ _. refl)
