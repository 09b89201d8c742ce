use Rattle.esync_script.proofs.opening.serve_opening.Goals as goal

pub returns-in-Signal : goal.returns-in-Signal
returns-in-Signal g c = rw c.in-Signal.is (c.serve.ensures _ _ (λ m new. new))

pub returns-in-Greedy : goal.returns-in-Greedy
returns-in-Greedy g c = rw c.in-Greedy.is (c.serve-in-Greedy.ensures _ _ (λ m new. new))

pub returns-in-Once : goal.returns-in-Once
returns-in-Once g c = rw c.in-Once.is (c.serve-in-Once.ensures _ _ (λ m new. new))

pub returns-in-Lazy : goal.returns-in-Lazy
returns-in-Lazy g c = rw c.in-Lazy.is (c.serve-in-Lazy.ensures _ _ (λ m new. new))

pub returns-in-Mutex : goal.returns-in-Mutex
returns-in-Mutex g c = rw c.in-Mutex.is (c.serve-in-Mutex.ensures _ _ (λ m new. new))

pub returns-in-Channel : goal.returns-in-Channel
returns-in-Channel g c = rw c.in-Channel.is c.serve_channel.ensures

pub returns-in-Max : goal.returns-in-Max
returns-in-Max g c = rw c.in-Max.is c.serve_priority.ensures

pub returns-in-Min : goal.returns-in-Min
returns-in-Min g c = rw c.in-Min.is c.serve_priority-in-Min.ensures

pub returns-in-Fair : goal.returns-in-Fair
returns-in-Fair g c = rw c.in-Fair.is c.serve_fair.ensures

pub returns-in-Pipe : goal.returns-in-Pipe
returns-in-Pipe g c = rw c.in-Pipe.is c.serve_pipe.ensures

pub returns-in-PubSub : goal.returns-in-PubSub
returns-in-PubSub g c = rw c.in-PubSub.is c.serve_pubsub.ensures

pub returns-in-Watch : goal.returns-in-Watch
returns-in-Watch g c = rw c.in-Watch.is c.serve_watch.ensures

pub returns-in-Zerocopy : goal.returns-in-Zerocopy
returns-in-Zerocopy g c = rw c.in-Zerocopy.is c.serve_zerocopy.ensures
