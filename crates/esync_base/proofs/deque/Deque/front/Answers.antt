use Rattle.esync_base.proofs.Lists.{some_items}
use Rattle.esync_base.proofs.deque.Deque.front.Goals as goal

pub get-requires : goal.get-requires
get-requires g c = (c.requires-raw.1.1, some_items c.is_empty.result c.args.self.now.items c.is_empty.ensures c.if-is_empty.false)
