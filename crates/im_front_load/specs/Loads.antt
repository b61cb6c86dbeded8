-- That a load was made.
use Rattle.std.specs.Prelude.{◌≤◌, ◌+◌, ◌*◌, IfSome}
use Rattle.im_theory_store_trait.specs.declared.store.Store.{Ghosts}
use Rattle.im_front.specs.declared.held.Closed.{Closed}
use Rattle.im_front.specs.declared.load_args.LoadArgs.{LoadArgs}
use Rattle.im_front.specs.Traces.{trace_of}
use Rattle.im_front.specs.Held.{IsRun}

-- A load with these numbers came to its end: of a store that tells, its trace is a run that ends in the store; where the sum is there, it has the steps of each worker and of the flusher.
pub record WasLoaded {E : Type 0} (d : Ghosts E) (args : LoadArgs) : Type 0 where
  pub closed : Closed E
  pub run : d.tells → IsRun d.life closed.base.items (trace_of closed.trace.items) closed.engine
  pub steps : IfSome closed.sum (λ n. args.threads * (3 * args.txns) + 9 * args.flush ≤ n)
