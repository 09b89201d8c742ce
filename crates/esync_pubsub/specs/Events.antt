-- A pub-sub channel in which subscribers and publishers have numbers.
use Rattle.std.specs.Prelude.{◌≡◌, ℕ, ◌≤◌, true, List, length, Option, Some, refl}
use Rattle.std.specs.Coded.{Coded, code_by, coded×, coded_ℕ, coded_list, coded_option}
use base.Stored.{coded_unit}
use Rattle.esync_machine.specs.Numbers.{at_number}
use Rattle.esync_machine.specs.Names.{used}
use Rattle.esync_log.specs.Log.{is_live}
use Rattle.esync_pubsub.specs.PubSub.{PubSub}

-- the place of each subscriber that has a number, and the numbers of the publishers
pub record Tables : Type 0 where
  pub subscribers : List (Option ℕ)
  pub publishers : List (Option (Unit {0}))

abbrev pub tables_code : Coded Tables
tables_code =
    code_by (List (Option ℕ) × List (Option (Unit {0}))) (coded× (coded_list (coded_option coded_ℕ)) (coded_list (coded_option coded_unit))) (λ s. (s.subscribers, s.publishers)) (λ p. record { subscribers = p.0; publishers = p.1 }) (λ _. refl)

-- a state with its numbers
pub record Eventing (S : Type 0) : Type 0 where
  pub state : S
  pub tables : Tables

abbrev pub eventing_code : {S : Type 0} → Coded S → Coded (Eventing S)
eventing_code {S} s = code_by (S × Tables) (coded× s tables_code) (λ m. (m.state, m.tables)) (λ p. record { state = p.0; tables = p.1 }) (λ _. refl)

-- the numbers name all subscribers, each by one number, and as many publishers as are counted
pub record AreNamed {T W : Type 0} (cap pubs names : ℕ) (s : PubSub T W) (t : Tables) : Type 0 where
  pub room : 1 ≤ cap
  pub at_most : s.publishers ≤ pubs
  pub subscribers : length t.subscribers ≡ names
  pub publishers : length t.publishers ≡ names
  pub live : (r place : ℕ) → at_number t.subscribers r ≡ Some place → is_live place s.log ≡ true
  pub apart : (r u place : ℕ) → at_number t.subscribers r ≡ Some place → at_number t.subscribers u ≡ Some place → r ≡ u
  pub named : (place : ℕ) → is_live place s.log ≡ true → (r : ℕ) × (at_number t.subscribers r ≡ Some place)
  pub counted : s.publishers ≡ used t.publishers
