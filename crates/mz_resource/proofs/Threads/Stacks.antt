-- What stacks of frames hold stays, where what they own stays.
use Rattle.std.proofs.Common.{List, arith}
use Rattle.mz_tree.specs.Programs.{Sig}
use Rattle.mz_decl.specs.Declarations.{Decls}
use Rattle.mz_named.specs.Configurations.{Value, Frame, Suspended, Thread, Running, Ended, Stopped}
use Rattle.mz_resource.specs.Meaning.{Owned, Sight}
use Rattle.mz_resource.specs.Frames.{FrameHolding, ThreadHolding, TopIsHeld, WaitingIsHeld, BelowIsHeld, Nothing_below, Waits_below, ThreadIsHeld, WaitingHolding}
use Rattle.mz_resource.proofs.Meaning.Staying.{Stays, stays_part, all_stay}

module _ (D : Decls) (S S' : Sight) where
  top_stays : (sig : Sig) (f : Frame) (q : FrameHolding) (g : Owned) → Stays D S S' g → TopIsHeld D S sig f q g → TopIsHeld D S' sig f q g
  top_stays sig f q g k t = record { means = all_stay D S S' t.means k; env = t.env; state = t.state; alike = t.alike; walks = t.walks }

  waiting_stays : (called : Sig) (args : List Value) (sig : Sig) (w : Suspended) (q : WaitingHolding) (g : Owned) → Stays D S S' g → WaitingIsHeld D S called args sig w q g → WaitingIsHeld D S' called args sig w q g
  waiting_stays called args sig w q g k t = record {
    names = t.names;
    values = t.values;
    many = t.many;
    apart = t.apart;
    to_core = t.to_core;
    to_low = t.to_low;
    fresh = t.fresh;
    means = all_stay D S S' t.means k;
    env = t.env;
    back = t.back;
    gives_back = t.gives_back;
    gives = t.gives;
    walks = t.walks;
  }

  pub below_stays : {called : Sig} {args : List Value} {below : List Suspended} {parts : List WaitingHolding} {f : Owned} → BelowIsHeld D S called args below parts f → Stays D S S' f → BelowIsHeld D S' called args below parts f
  below_stays (Nothing_below n) k = Nothing_below n
  below_stays (Waits_below {f = f} {g = g} {h = h} s sig of w under j) k =
      Waits_below s sig of (waiting_stays _ _ sig _ _ g (stays_part D S S' f g (λ t. omega (arith, j t)) k) w) (below_stays under (stays_part D S S' f h (λ t. omega (arith, j t)) k)) j

  pub thread_stays : (t : Thread) (q : ThreadHolding) (g : Owned) → Stays D S S' g → ThreadIsHeld D S t q g → ThreadIsHeld D S' t q g
  thread_stays (Running f below) q g k s = record {
    number = s.number;
    sig = s.sig;
    args = s.args;
    top_of = s.top_of;
    top_owns = s.top_owns;
    below_owns = s.below_owns;
    top = top_stays s.sig f q.top s.top_owns (stays_part D S S' g s.top_owns (λ t. let j = s.join t in omega arith) k) s.top;
    under = below_stays s.under (stays_part D S S' g s.below_owns (λ t. let j = s.join t in omega arith) k);
    join = s.join;
  }
  thread_stays Ended q g k s = s
  thread_stays Stopped q g k s = s
