-- The lists of the program that declarations come to: which constructors, rows of constructors and numbers of parameters it
-- has, whatever is wrong with the declarations; and the signatures of its functions, where nothing is.
use Rattle.std.proofs.Common.{◌≡◌, ℕ, suc, ◌+◌, List, [], ◌∷◌, ◌++◌, map, length, Option, Some, slice_get, option_map, refl, sym, ap, ap₂, ◌∙◌}
use Rattle.std.specs.List.{range_with_len}
use Rattle.std.proofs.lemmas.List.{map-append}
use Rattle.mz_tree.specs.Programs.{Variety, Con, Sig, Fun, Program}
use Rattle.mz_scope.specs.Syntax.{Word, FieldTree, ConTree, DataTree, ParamTree, SigTree, FunTree, Declaration, Data_declaration, Sig_declaration, Fun_declaration}
use Rattle.mz_scope.specs.Names.{Names, find, numbered, Globals, TypeEntry, ConEntry, con_names_in, con_names, param_lists, sig_number}
use Rattle.mz_scope.specs.Making.{Made, Part, fault_if}
use Rattle.mz_scope.specs.Types.{flat_typed, flat_atoms}
use Rattle.mz_scope.specs.Declarations.{is_other, declares, params_of, all_of, no_program, fields_from, cons_from, adopted_by, data_type, params_from, needs_of, signature, params_by_name, function, declarations}
use Rattle.mz_scoped.proofs.Goes.{Goes, first_then, first_and, framed, given, is_declared}
use Rattle.mz_scoped.proofs.Always.{Always, always_then, always_after, always_and, always_give}
use Rattle.mz_scoped.proofs.KeptFaults.{kept_goes}
use Rattle.mz_scoped.proofs.KeptBodies.{kept_block}
use Rattle.mz_scoped.proofs.KeptDeclarations.{kept_declares, kept_with, kept_many, kept_cons, kept_data, kept_sig}
use Rattle.mz_scoped.proofs.TopNames.{con_rows, fun_sigs, fields_length}

-- ---- constructors: their data types and how many fields they have

abbrev pub con_shape : Con → ℕ × ℕ
con_shape c = (c.variety, length c.fields)

abbrev pub entry_shape : List ℕ × ConEntry → ℕ × ℕ
entry_shape one = (one.1.variety, length one.1.fields)

-- the lists of a program, of whose declarations k constructors of d data types stand before
pub record IsListed (d k : ℕ) (tree : List Declaration) (p : Program) : Type 0 where
  pub cons : map con_shape p.cons ≡ map entry_shape (con_names d k tree)
  pub varieties : map (λ (v : Variety). v.cons) p.varieties ≡ con_rows k tree
  pub sigs : map (λ (s : Sig). s.count) p.sigs ≡ map length (param_lists tree)

module _ (g : Globals) where
  -- a constructor has as many fields as its declaration
  fields_many : (scope : Names ℕ) (i : ℕ) (fields : List FieldTree) → Always (fields_from g scope i fields) (λ all. length all ≡ length fields)
  fields_many scope i [] = always_give [] refl
  fields_many scope i (f ∷ rest) =
      always_and (declares (find scope f.name.text) i 32 f.name) (always_after (flat_typed g scope i f.ty)
      (λ content. always_then (fields_many scope (i + 1) rest)
      (λ others many. always_give (record { name = f.name.text; content = content } ∷ others) (ap suc many))))

  -- the constructors of data type d are of it, and have so many fields
  cons_are : (d k : ℕ) (cons : List ConTree) → Always (cons_from g d k cons) (λ all. map con_shape all ≡ map entry_shape (con_names_in d k cons))
  cons_are d k [] = always_give [] refl
  cons_are d k (con ∷ rest) =
      always_and (declares (option_map (λ (c : ConEntry). c.number) (find g.cons con.name.text)) k 1000 con.name) (always_then (fields_many (numbered 0 (map (λ (f : FieldTree). f.name) con.fields)) 0 con.fields)
      (λ fields many. always_then (cons_are d (k + 1) rest)
      (λ others are. always_give (record { name = con.name.text; variety = d; fields = fields } ∷ others) (ap₂ (λ n l. (d, n) ∷ l) (many ∙ sym (fields_length d k con)) are))))

  -- the place in order of the first data type or signature with a name
  abbrev first_type : Word → Option ℕ
  first_type name = option_map (λ (t : TypeEntry). t.position) (find g.types name.text)

  -- a data type has the numbers of its constructors
  data_is : (n k : ℕ) (x : DataTree) → Always (data_type g n k x) (λ v. v.cons ≡ range_with_len k (length x.cons))
  data_is n k x =
      always_and (declares (first_type x.name) n 1000 x.name) (always_after (adopted_by g x.adopts)
      (λ u. always_give (record { name = x.name.text; place = x.name.place; mutable = x.mutable; adopts = u; cons = range_with_len k (length x.cons) }) refl))

  -- a signature counts its parameters
  sig_is : (n : ℕ) (x : SigTree) → Always (signature g n x) (λ s. s.count ≡ length x.params)
  sig_is n x =
      always_and (declares (first_type x.name) n 1000 x.name) (always_after (params_from g (params_of x) 0 x.params)
      (λ of_params. always_after (needs_of g (params_of x) x.needs)
      (λ others. always_and (fault_if (is_other (find (all_of x) x.result.text) (length x.params)) _ x.result.place) (always_after (flat_typed g (all_of x) (length x.params) x.ty)
      (λ a. always_after (flat_atoms g (all_of x) x.gives)
      (λ gives. always_give (record { name = x.name.text; count = length x.params; needs = of_params ++ others; gives = a ∷ gives }) refl))))))

  -- as many as there are names
  params_length : (params : List ParamTree) → length params ≡ length (map (λ (p : ParamTree). p.name) params)
  params_length [] = refl
  params_length (p ∷ rest) = ap suc (params_length rest)

  -- the lists of all declarations
  pub listed : (d s k f : ℕ) (tree : List Declaration) → Always (declarations g d s k f tree) (IsListed d k tree)
  listed d s k f [] = always_give no_program (record { cons = refl; varieties = refl; sigs = refl })
  listed d s k f (Data_declaration x ∷ rest) =
      always_then (data_is (d + s) k x)
      (λ v v_is. always_then (cons_are d k x.cons)
      (λ cons are. always_then (listed (d + 1) s (k + length x.cons) f rest)
      (λ others all. always_give (record others { varieties = v ∷ others.varieties; cons = cons ++ others.cons }) (record {
        cons = map-append con_shape cons others.cons ∙ ap₂ (λ a b. a ++ b) are all.cons ∙ sym (map-append entry_shape (con_names_in d k x.cons) (con_names (d + 1) (k + length x.cons) rest));
        varieties = ap₂ (λ a b. a ∷ b) v_is all.varieties;
        sigs = all.sigs;
      }))))
  listed d s k f (Sig_declaration x ∷ rest) =
      always_then (sig_is (d + s) x)
      (λ one is. always_then (listed d (s + 1) k f rest)
      (λ others all. always_give (record others { sigs = one ∷ others.sigs }) (record {
        cons = all.cons;
        varieties = all.varieties;
        sigs = ap₂ (λ a b. a ∷ b) (is ∙ params_length x.params) all.sigs;
      })))
  listed d s k f (Fun_declaration x ∷ rest) =
      always_after (function g f x)
      (λ one. always_then (listed d s k (f + 1) rest)
      (λ others all. always_give (record others { funs = one ∷ others.funs }) (record { cons = all.cons; varieties = all.varieties; sigs = all.sigs })))

  -- ---- a function's signature is declared

  -- a fact that speaks of nothing made is all that held before
  beside : {A : Type 0} (X : Type 0) {part : Part A} {Q : A → Made → Type 0} → Goes (λ _. Unit {0}) part Q → Goes (λ _. X) part (λ a m. X × Q a m)
  beside X goes = record {
    clean = goes.clean;
    leads = λ m none x. (x, goes.leads m none tt);
  }

  -- the signature that is declared is the function's
  fun_goes : (f : ℕ) (x : FunTree) → Goes (λ _. Unit {0}) (function g f x) (λ one _. sig_number g.types x.sig.text ≡ Some one.sig)
  fun_goes f x =
      first_and _ _ (kept_goes (kept_declares _ f 1000 x.name))
      (first_then _ _ (is_declared 0 (sig_number g.types x.sig.text) x.sig.place)
      (λ s. first_then _ _ (framed (sig_number g.types x.sig.text ≡ Some s) (kept_goes (kept_with (params_by_name g x.sig.text) _ (kept_block g (numbered 0 (params_by_name g x.sig.text)) x.block))))
      (λ made. first_and _ _ (framed (sig_number g.types x.sig.text ≡ Some s) (kept_goes (kept_many (slice_get made.names 256))))
      (given _ (λ m p. p.0)))))

  -- the signatures of functions, in order
  pub funs_go : (d s k f : ℕ) (tree : List Declaration) → Goes (λ _. Unit {0}) (declarations g d s k f tree) (λ p _. map (λ (one : Fun). Some one.sig) p.funs ≡ fun_sigs g.types tree)
  funs_go d s k f [] = given _ (λ m p. refl)
  funs_go d s k f (Data_declaration x ∷ rest) =
      first_then _ _ (kept_goes (kept_data g (d + s) k x))
      (λ v. first_then _ _ (kept_goes (kept_cons g d k x.cons))
      (λ cons. first_then _ _ (funs_go (d + 1) s (k + length x.cons) f rest)
      (λ others. given _ (λ m p. p))))
  funs_go d s k f (Sig_declaration x ∷ rest) =
      first_then _ _ (kept_goes (kept_sig g (d + s) x))
      (λ one. first_then _ _ (funs_go d (s + 1) k f rest)
      (λ others. given _ (λ m p. p)))
  funs_go d s k f (Fun_declaration x ∷ rest) =
      first_then _ _ (fun_goes f x)
      (λ one. first_then _ _ (beside (sig_number g.types x.sig.text ≡ Some one.sig) (funs_go d s k (f + 1) rest))
      (λ others. given _ (λ m p. ap₂ (λ a b. a ∷ b) (sym p.0) p.1)))
