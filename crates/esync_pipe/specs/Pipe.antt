-- What the calls of a pipe of n places do to its bytes and to the registered wakers.
use Rattle.std.specs.Prelude.{◌≡◌, ℕ, ◌-◌, ◌<◌, ◌==◌, ◌&&◌, min, Bool, true, false, not, List, [], ◌++◌, length, take, drop, Option, Some, None, Result, Ok, Err, is_ok, nat_lt}
use Rattle.esync_base.specs.Ring.{Ringed, slot}
use Rattle.esync_base.specs.Registration.{registered_if, displaced_if}
use Rattle.esync_base.specs.declared.waitqueue.Poll.{Poll}
use Rattle.esync_base.specs.declared.waitqueue.Poll.TheVariants.{Pending, Ready}
use Rattle.esync_pipe.specs.Piped.{Slots, Piped}
use Rattle.esync_pipe.specs.declared.pipe.TryReadError.{TryReadError}
use Rattle.esync_pipe.specs.declared.pipe.TryWriteError.{TryWriteError}

-- the ring with more bytes behind those that it has
abbrev pub behind : Ringed ℕ → List ℕ → Ringed ℕ
behind o bytes = record o { items = o.items ++ bytes }

-- the ring without its k oldest bytes: the place of the oldest moves on by k, round the n places
abbrev pub without : ℕ → Ringed ℕ → ℕ → Ringed ℕ
without n o k = record { items = drop k o.items; front = slot n o.front k }

-- how many bytes there is room for
abbrev pub free : ℕ → Ringed ℕ → ℕ
free n o = n - length o.items

-- how many of the bytes there is room for
abbrev pub puts : ℕ → Ringed ℕ → List ℕ → ℕ
puts n o bytes = min (length bytes) (free n o)

-- the oldest bytes, up to the wrap of the ring
abbrev pub shown : ℕ → Ringed ℕ → List ℕ
shown n o = take (n - o.front) o.items

-- a write puts as many of the bytes behind the others as there is room for, and is refused if there is none
abbrev pub Writes : ℕ → Ringed ℕ → List ℕ → Result ℕ TryWriteError → Ringed ℕ → Type 0
Writes n o from (Ok k) o2 = (length o.items < n) × (k ≡ puts n o from) × (o2 ≡ behind o (take k from))
Writes n o from (Err e) o2 = (length o.items ≡ n) × (o2 ≡ o)

-- a read takes the oldest bytes into the front of a slice, as many as fit, and is refused if there are none
abbrev pub Reads : ℕ → Ringed ℕ → List ℕ → Result ℕ TryReadError → List ℕ → Ringed ℕ → Type 0
Reads n o to (Ok k) to2 o2 = (0 < length o.items) × (k ≡ min (length to) (length o.items)) × (to2 ≡ take k o.items ++ drop k to) × (o2 ≡ without n o k)
Reads n o to (Err e) to2 o2 = (length o.items ≡ 0) × (to2 ≡ to) × (o2 ≡ o)

-- a fill copies the oldest bytes up to the wrap, and is refused if there are none
abbrev pub Copies : ℕ → Ringed ℕ → List ℕ → Result (Unit {0}) TryReadError → List ℕ → Type 0
Copies n o copy (Ok done) copy2 = (0 < length o.items) × (copy2 ≡ shown n o)
Copies n o copy (Err e) copy2 = (length o.items ≡ 0) × (copy2 ≡ copy)

-- a fill of a slice copies as many of the oldest bytes up to the wrap as fit, and is refused if there are none
abbrev pub Shows : ℕ → Ringed ℕ → List ℕ → Result ℕ TryReadError → List ℕ → Type 0
Shows n o to (Ok k) to2 = (0 < length o.items) × (k ≡ min (length to) (length (shown n o))) × (to2 ≡ take k (shown n o) ++ drop k to)
Shows n o to (Err e) to2 = (length o.items ≡ 0) × (to2 ≡ to)

-- whether at least k bytes stand before the wrap
abbrev pub shows : ℕ → Ringed ℕ → ℕ → Bool
shows n o k = not (nat_lt (length (shown n o)) k)

-- A write of all bytes puts as many of them behind the others as there is room for. It is ready once none is left;
-- otherwise the pipe is full then.
abbrev pub WritesAll : ℕ → Ringed ℕ → List ℕ → Poll (Unit {0}) → Ringed ℕ → Option (List ℕ) → Type 0
WritesAll n o bytes (Ready done) o2 rest = (nat_lt (puts n o bytes) (length bytes) ≡ false) × (o2 ≡ behind o bytes) × (rest ≡ None)
WritesAll n o bytes Pending o2 rest =
    (nat_lt (puts n o bytes) (length bytes) ≡ true) × (o2 ≡ behind o (take (puts n o bytes) bytes)) × (rest ≡ Some (drop (puts n o bytes) bytes)) × (length o2.items ≡ n)

-- the bytes that a request has left
abbrev pub rest_of : Option (List ℕ) → List ℕ
rest_of None = []
rest_of (Some rest) = rest

-- the wakers of a slot that are handed out, if the slot is, and the wakers that stay in it
abbrev pub out_if : {W : Type 0} → Bool → List W → List W
out_if true s = s
out_if false s = []

abbrev pub left_if : {W : Type 0} → Bool → List W → List W
left_if true s = []
left_if false s = s

-- the waker that is registered, if it is to be
abbrev pub waker_if : {W : Type 0} → Bool → W → Option W
waker_if true w = Some w
waker_if false w = None

abbrev pub is_empty : Ringed ℕ → Bool
is_empty o = length o.items == 0

abbrev pub is_full : ℕ → Ringed ℕ → Bool
is_full n o = length o.items == n

module _ {W : Type 0} (eq : W → W → Bool) where
  -- a write into an empty pipe hands out the readers' slot; a refused one registers the waker, if any, in the writers'
  abbrev pub slots_after_write : Ringed ℕ → Option W → Bool → Slots W → Slots W
  slots_after_write o w true s = record s { readers = left_if (is_empty o) s.readers }
  slots_after_write o w false s = record s { writers = registered_if eq 1 s.writers w }

  abbrev pub wakes_of_write : Ringed ℕ → Option W → Bool → Slots W → List W
  wakes_of_write o w true s = out_if (is_empty o) s.readers
  wakes_of_write o w false s = displaced_if eq 1 s.writers w

  -- a read from a full pipe hands out the writers' slot; a refused one registers the waker, if any, in the readers'
  abbrev pub slots_after_read : ℕ → Ringed ℕ → Option W → Bool → Slots W → Slots W
  slots_after_read n o w true s = record s { writers = left_if (is_full n o) s.writers }
  slots_after_read n o w false s = record s { readers = registered_if eq 1 s.readers w }

  abbrev pub wakes_of_read : ℕ → Ringed ℕ → Option W → Bool → Slots W → List W
  wakes_of_read n o w true s = out_if (is_full n o) s.writers
  wakes_of_read n o w false s = displaced_if eq 1 s.readers w

  -- a fill that is refused registers the waker, if any, in the readers' slot; any other changes no slot
  abbrev pub slots_after_fill : Option W → Bool → Slots W → Slots W
  slots_after_fill w true s = s
  slots_after_fill w false s = record s { readers = registered_if eq 1 s.readers w }

  abbrev pub wakes_of_fill : Option W → Bool → Slots W → List W
  wakes_of_fill w true s = []
  wakes_of_fill w false s = displaced_if eq 1 s.readers w

  -- A write of all that puts k of its bytes: the first byte into an empty pipe hands out the readers' slot. Then, if
  -- some bytes are left, the waker is registered in the writers'.
  abbrev pub slots_after_write_all : Ringed ℕ → ℕ → ℕ → W → Slots W → Slots W
  slots_after_write_all o k many w s = record {
    readers = left_if (nat_lt 0 k && is_empty o) s.readers;
    writers = registered_if eq 1 s.writers (waker_if (nat_lt k many) w);
  }

  abbrev pub wakes_of_write_all : Ringed ℕ → ℕ → ℕ → W → Slots W → List W
  wakes_of_write_all o k many w s = out_if (nat_lt 0 k && is_empty o) s.readers ++ displaced_if eq 1 s.writers (waker_if (nat_lt k many) w)

  -- a fill changes slots only
  abbrev pub Filling : Piped W → Option W → Bool → Piped W → List W → Type 0
  Filling p w ok p2 wakes = (p2 ≡ record { ring = p.ring; slots = slots_after_fill w ok p.slots }) × (wakes ≡ wakes_of_fill w ok p.slots)

-- the k oldest bytes are dropped if this says so, which makes room in a full pipe
abbrev pub Dropping : {W : Type 0} → ℕ → Piped W → ℕ → Bool → Piped W → List W → Type 0
Dropping n p k true p2 wakes =
    (p2 ≡ record { ring = without n p.ring k; slots = record p.slots { writers = left_if (nat_lt 0 k && is_full n p.ring) p.slots.writers } })
    × (wakes ≡ out_if (nat_lt 0 k && is_full n p.ring) p.slots.writers)
Dropping n p k false p2 wakes = (p2 ≡ p) × (wakes ≡ [])
