use Rattle.std.proofs.Common.{refl, ap}
use Rattle.esync_machine.specs.declared.primitive.Answer.TheVariants.{Gives}
use Rattle.esync_log.specs.Log.{is_live}
use Rattle.esync_pubsub.specs.PubSubRules.{topic_of}
use Rattle.esync_pubsub.specs.declared.pubsub.machine.PubSubHeard.TheVariants.{Number}
use Rattle.esync_pubsub.proofs.Calls.{nobody_handed, at_once_live, tried_named_live, next_named_live, next_pure_named_live}
use Rattle.esync_pubsub.proofs.Named.{named_same}
use Rattle.esync_pubsub.proofs.Reading.{alone}
use Rattle.esync_pubsub.proofs.Turns.{here_by}
use Rattle.esync_pubsub.proofs.pubsub.PubSubOver.perform.Goals as goal

pub returns-in-Join : goal.returns-in-Join
returns-in-Join g c = record {
  exact = rw c.in-Join.is (nobody_handed c.join_named.result c.args.self.now.lists c.join_named.new.self.lists c.args.wakes.now c.requires.empty c.join_named.ensures.lists);
  allowed = rw c.in-Join.is c.join_named.ensures.allowed;
  named = c.join_named.ensures.named;
}

pub returns-in-Publisher : goal.returns-in-Publisher
returns-in-Publisher g c = record {
  exact = rw c.in-Publisher.is (nobody_handed c.add_named.result c.args.self.now.lists c.add_named.new.self.lists c.args.wakes.now c.requires.empty c.add_named.ensures.lists);
  allowed = rw c.in-Publisher.is c.add_named.ensures.allowed;
  named = c.add_named.ensures.named;
}

pub returns-in-Retire : goal.returns-in-Retire
returns-in-Retire g c = record {
  exact = rw c.in-Retire.is (nobody_handed c.retire_named.result c.args.self.now.lists c.retire_named.new.self.lists c.args.wakes.now c.requires.empty c.retire_named.ensures.lists);
  allowed = rw c.in-Retire.is c.retire_named.ensures.allowed;
  named = c.retire_named.ensures.named;
}

pub returns-in-Available : goal.returns-in-Available
returns-in-Available g c = record {
  exact = rw c.in-Available.is (nobody_handed c.available_named.result c.args.self.now.lists c.args.self.now.lists c.args.wakes.now c.requires.empty refl);
  allowed = rw c.in-Available.is c.available_named.ensures;
  named = c.requires.named;
}

pub returns-in-TryPublish : goal.returns-in-TryPublish
returns-in-TryPublish g c = record {
  exact = rw c.in-TryPublish.is c.try_publish_named.ensures.exact;
  allowed = rw c.in-TryPublish.is c.try_publish_named.ensures.allowed;
  named = (
      let old = topic_of c.args.self.now c.args.tables.now in
      let new = topic_of c.try_publish_named.new.self c.args.tables.now in
      named_same g.G.LogStore.capacity g.P.WakerList.room g.row.NAMES c.args.self.now c.try_publish_named.new.self c.args.tables.now.subscribers c.args.tables.now.publishers c.requires.named c.try_publish_named.ensures.publishers (tried_named_live g.G.Message.Clone.is_clone g.G.Message.Clone.is_infallible g.G.LogStore.capacity g.P.WakerList.room old new c.try_publish_named.result c.in-TryPublish.p c.in-TryPublish.message c.try_publish_named.ensures.allowed));
}

pub returns-in-Immediate : goal.returns-in-Immediate
returns-in-Immediate g c = record {
  exact = rw c.in-Immediate.is c.publish_at_once.ensures.exact;
  allowed = rw c.in-Immediate.is (c.publish_at_once.ensures.allowed, refl);
  named = named_same g.G.LogStore.capacity g.P.WakerList.room g.row.NAMES c.args.self.now c.publish_at_once.new.self c.args.tables.now.subscribers c.args.tables.now.publishers c.requires.named c.publish_at_once.ensures.publishers (at_once_live c.args.self.now.log c.publish_at_once.new.self.log g.G.LogStore.capacity c.in-Immediate.message c.publish_at_once.result c.publish_at_once.ensures.allowed);
}

pub returns-in-Next : goal.returns-in-Next
returns-in-Next g c = record {
  exact = rw c.in-Next.is c.next_named.ensures.exact;
  allowed = rw c.in-Next.is c.next_named.ensures.allowed;
  named = (
      let old = topic_of c.args.self.now c.args.tables.now in
      let new = topic_of c.next_named.new.self c.args.tables.now in
      named_same g.G.LogStore.capacity g.P.WakerList.room g.row.NAMES c.args.self.now c.next_named.new.self c.args.tables.now.subscribers c.args.tables.now.publishers c.requires.named c.next_named.ensures.publishers (next_named_live g.G.Message.Clone.is_clone g.G.Message.Clone.is_infallible g.G.LogStore.capacity g.P.WakerList.room old new c.next_named.result (here_by old c.requires.named.live) c.in-Next.s c.next_named.ensures.allowed));
}

pub returns-in-NextPure : goal.returns-in-NextPure
returns-in-NextPure g c = record {
  exact = rw c.in-NextPure.is c.next_pure_named.ensures.exact;
  allowed = rw c.in-NextPure.is c.next_pure_named.ensures.allowed;
  named = (
      let old = topic_of c.args.self.now c.args.tables.now in
      let new = topic_of c.next_pure_named.new.self c.args.tables.now in
      named_same g.G.LogStore.capacity g.P.WakerList.room g.row.NAMES c.args.self.now c.next_pure_named.new.self c.args.tables.now.subscribers c.args.tables.now.publishers c.requires.named c.next_pure_named.ensures.publishers (next_pure_named_live g.G.Message.Clone.is_clone g.G.Message.Clone.is_infallible g.G.LogStore.capacity g.P.WakerList.room old new c.next_pure_named.result (here_by old c.requires.named.live) c.in-NextPure.s c.next_pure_named.ensures.allowed));
}

pub returns-in-Clear : goal.returns-in-Clear
returns-in-Clear g c =
    let state = c.clear.ensures.state in
    record {
      exact = rw c.in-Clear.is (alone c.args.wakes.now c.clear.new.wakes _ c.clear.ensures.wakes c.requires.empty, ap (λ x. x.lists) state);
      allowed = rw c.in-Clear.is (refl, ap (λ x. topic_of x c.args.tables.now) state);
      named = named_same g.G.LogStore.capacity g.P.WakerList.room g.row.NAMES c.args.self.now c.clear.new.self c.args.tables.now.subscribers c.args.tables.now.publishers c.requires.named (ap (λ x. x.publishers) state) (λ q. ap (λ x. is_live q x.log) state);
    }

pub returns-in-Leave : goal.returns-in-Leave
returns-in-Leave g c = record {
  exact = rw c.in-Leave.is c.leave_named.ensures.exact;
  allowed = rw c.in-Leave.is c.leave_named.ensures.allowed;
  named = c.leave_named.ensures.named;
}

pub returns-in-Len : goal.returns-in-Len
returns-in-Len g c = record {
  exact = rw c.in-Len.is (c.requires.empty, refl);
  allowed = rw c.in-Len.is (ap (λ n. Gives (Number n)) c.len.ensures.value, refl);
  named = c.requires.named;
}

pub returns-in-FreeCapacity : goal.returns-in-FreeCapacity
returns-in-FreeCapacity g c = record {
  exact = rw c.in-FreeCapacity.is (c.requires.empty, refl);
  allowed = rw c.in-FreeCapacity.is (c.free_capacity.result, refl, c.free_capacity.ensures, refl);
  named = c.requires.named;
}
