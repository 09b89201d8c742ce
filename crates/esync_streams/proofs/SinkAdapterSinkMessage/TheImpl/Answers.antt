use Rattle.esync_streams.proofs.Flushed.{flushed, on_ok, on_ready, on_pending, unless_failed}
use Rattle.esync_streams.proofs.SinkAdapterSinkMessage.TheImpl.Goals as goal

pub poll_ready-tells : goal.poll_ready-tells
poll_ready-tells g x c = record {
  ready = on_ready _ (tt, tt) c.result;
  again = on_pending _ tt c.result;
  same = λ y h. tt;
  history = unless_failed _ (λ xs h. tt) c.result;
  registered = c.ensures.registered;
  kept = c.ensures.kept;
}

pub start_send-tells : goal.start_send-tells
start_send-tells g x c = record {
  goes = on_ok _ tt c.result;
  same = λ y h. tt;
  history = on_ok _ (λ xs h. tt) c.result;
}

pub poll_flush-tells : goal.poll_flush-tells
poll_flush-tells g x c = record {
  goes = on_ready _ tt c.result;
  flushed = flushed c.args.self.now.stored c.result c.new.self.now.stored c.ensures.flushes;
  again = on_pending _ tt c.result;
  same = λ y h. tt;
  history = unless_failed _ (λ xs h. tt) c.result;
  registered = c.ensures.registered;
  kept = c.ensures.kept;
}

pub poll_close-tells : goal.poll_close-tells
poll_close-tells g x c = record {
  closed = flushed c.args.self.now.stored c.result c.new.self.now.stored c.ensures.flushes;
  again = on_pending _ tt c.result;
  history = unless_failed _ (λ xs h. tt) c.result;
  registered = c.ensures.registered;
  kept = c.ensures.kept;
}
