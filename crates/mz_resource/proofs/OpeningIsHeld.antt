-- The invariant holds where a derivable program opens: there is one thread, `main` needs nothing, and nothing is owned.
use Rattle.std.proofs.Common.{◌≡◌, ℕ, zero, suc, ◌<◌, true, List, [], ◌∷◌, map, Some, None, slice_get, codes, refl, sym, ap, subst, arith}
use Rattle.std.specs.Str.{bytes_eq}
use Rattle.std.proofs.lemmas.Option.{slice_get_within}
use Rattle.mz_tree.specs.Plain.{Atom, Has_atom, Same_atom, map_atom}
use Rattle.mz_tree.specs.Programs.{Need, Sig, Fun, Program}
use Rattle.mz_decl.specs.Declarations.{decls_of}
use Rattle.mz_decl.specs.Signatures.{needed}
use Rattle.mz_deriv.specs.Scripts.{Item}
use Rattle.mz_deriv.specs.Derivable.{Derivable}
use Rattle.mz_named.specs.Configurations.{Thread, Running, Config}
use Rattle.mz_named.specs.Safety.{IsOpening}
use Rattle.mz_named.specs.Bodies.{start, value_at}
use Rattle.mz_resource.specs.Meaning.{MeansAll, All_none}
use Rattle.mz_resource.specs.Frames.{Nothing_below, ThreadIsHeld, StackIsHeld}
use Rattle.mz_resource.specs.Held.{Holding, sight, Held}
use Rattle.mz_resource.proofs.Facts.{some_inj, none_some, no_get, member_at}
use Rattle.mz_resource.proofs.Programs.Proper.{IsClosed, AreNeedsClosed, ProperDecls, ProperBodies}
use Rattle.mz_resource.proofs.Meaning.Names.{eq_self, or_left}
use Rattle.mz_perm.proofs.Orders.{perm_refl}
use Rattle.mz_resource.proofs.Commands.Calling.{IsStart, starts}
use Rattle.mz_resource.specs.Following.{BeginsFunction}

-- `main` has no parameters
abbrev pub MainIsPlain : Program → Type 0
MainIsPlain p = (k : ℕ) (f : Fun) (sig : Sig) → slice_get p.funs k ≡ Some f → bytes_eq f.name (codes "main") ≡ true → slice_get p.sigs f.sig ≡ Some sig → sig.count ≡ 0

-- what speaks of no name is nothing
no_atom : (a : Atom ℕ) → IsClosed 0 a → ⊥
no_atom (Has_atom x t) c = let l = c x (or_left _ _ (eq_self x)) in omega (arith, l)
no_atom (Same_atom x y) c = let l = c x (or_left _ _ (eq_self x)) in omega (arith, l)

no_needs : (needs : List Need) → AreNeedsClosed 0 needs → needs ≡ []
no_needs [] c = refl
no_needs (n ∷ needs) c = absurd (no_atom n.atom c.0)

pub opening_held : (p : Program) (scripts : List (List Item)) (w : Config) → ProperDecls (decls_of p) → ProperBodies p → MainIsPlain p → Derivable p scripts → (o : IsOpening p w) →
    (h : Holding) × ((sig : Sig) × (slice_get p.sigs o.main.sig ≡ Some sig) × BeginsFunction scripts o.number sig (h.thread 0).top) × ((h.thread 0).below ≡ []) × Held p w h
opening_held p scripts w L C M V o = (h, (sig, signed, record { share = refl; script = begin.script_is; outer = refl }), refl, held)
  where
    here : (x : List Item) × (slice_get scripts o.number ≡ Some x)
    here = member_at scripts o.number (subst (λ m. o.number < m) (sym V.one_each) (slice_get_within p.funs o.number o.main o.declared))

    sig : Sig
    sig = (V.derives o.number o.main here.0 o.declared here.1).walks.sig

    signed : slice_get p.sigs o.main.sig ≡ Some sig
    signed = (V.derives o.number o.main here.0 o.declared here.1).walks.signed

    plain : sig.count ≡ 0
    plain = M o.number o.main sig o.declared o.named signed

    begin : IsStart p scripts o.number o.main.sig sig o.main
    begin = starts p scripts C V o.number o.main.sig o.main sig o.declared refl signed

    nothing : needed sig.needs ≡ []
    nothing = ap needed (no_needs sig.needs (subst (λ n. AreNeedsClosed n sig.needs) plain (L.sigs o.main.sig sig signed).needs))

    h : Holding
    h = record { clause = λ b. None; hides = λ l. None; thread = λ k. record { top = record { values = value_at []; share = needed sig.needs; script = begin.script; outer = [] }; below = [] } }

    stack : StackIsHeld (decls_of p) (sight w h) (start o.main []) [] (h.thread 0) (λ t. 0)
    stack = record {
      number = o.main.sig;
      sig = sig;
      args = [];
      top_of = record { declared = signed; has_args = record { many = sym plain; each = λ m l. refl }; core = (begin.core.0, begin.core.1, tt) };
      top_owns = λ t. 0;
      below_owns = λ t. 0;
      top = record {
        means = subst (λ l. MeansAll (decls_of p) (sight w h) (map (map_atom (value_at [])) l) (λ t. 0)) (sym nothing) (All_none (λ t. refl));
        env = λ m l. refl;
        state = needed sig.needs;
        alike = perm_refl (needed sig.needs);
        walks = begin.walks;
      };
      under = Nothing_below (λ t. refl);
      join = λ t. omega arith;
    }

    threads : (k : ℕ) (t : Thread) → slice_get (Running (start o.main []) [] ∷ []) k ≡ Some t → ThreadIsHeld (decls_of p) (sight w h) t (h.thread k) (λ t. 0)
    threads zero t e = subst (λ z. ThreadIsHeld (decls_of p) (sight w h) z (h.thread 0) (λ t. 0)) (some_inj e) stack
    threads (suc k) t e = absurd (no_get k e)

    held : Held p w h
    held = record {
      own = λ q t. 0;
      heap = record {
        fair = record { once = λ q t. omega arith; apart = λ q r t a b. absurd (omega (arith, a)) };
        real = λ q t l. absurd (omega (arith, l));
        adoptees = λ x y u a. absurd (none_some (o.empty x) a.adopted);
        locks = λ l q e f. absurd (none_some (o.empty l) e);
        tokens = λ q l e. refl;
        free = λ q b con y vs l n e. none_some (o.empty b) e;
        adopters = λ x y con vs e. absurd (none_some (o.empty x) e);
        hidden = λ l q e. absurd (none_some refl e);
        clauses = λ b u e. absurd (none_some refl e);
      };
      threads = λ k t e. threads k t (subst (λ l. slice_get l k ≡ Some t) o.threads e);
      none = λ k e t. refl;
    }
