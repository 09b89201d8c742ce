use Rattle.esync_pubsub.proofs.Named.{named_new}
use Rattle.esync_pubsub.proofs.pubsub.machine.Events.over.Goals as goal

pub invariant_of-result : goal.invariant_of-result
invariant_of-result g c = rw (c.new-tables.ensures, c.over.ensures, c.requires.empty) (named_new g.G.LogStore.capacity g.P.WakerList.room g.row.NAMES g.G.LogStore.places (g.G.LogStore.log c.args.log).next c.requires.messages)
