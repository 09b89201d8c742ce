-- A step that hands out nothing, whatever it is answered.
use Rattle.std.proofs.Common.{◌≡◌, List, []}
use Rattle.esync_machine.specs.declared.primitive.Answer.{Answer}
use Rattle.esync_machine.specs.declared.primitive.Answer.TheVariants.{Done, Pending, NoSuch, NoMemory, Gives}
use Rattle.esync_machine.specs.Wakings.{IsHanded, nothing, unless_refused}

pub handed_nothing : {A G W : Type 0} (a : Answer A) (g after : G) (wakes : List W) → wakes ≡ [] → after ≡ g → IsHanded (unless_refused a g (nothing g)) wakes after
handed_nothing Done g after wakes e f = (e, f)
handed_nothing Pending g after wakes e f = (e, f)
handed_nothing NoSuch g after wakes e f = (e, f)
handed_nothing NoMemory g after wakes e f = (e, f)
handed_nothing (Gives x) g after wakes e f = (e, f)
