-- The block of a read, a write or a change of tag.
use Rattle.std.proofs.Common.{◌≡◌, ◌<◌, inl, inr, ℕ, suc, List, ◌++◌, length, take, drop, Some, slice_get, refl, ap, ◌∙◌, arith, append-nil}
use Rattle.std.proofs.lemmas.List.{drop_all, take_all}
use Rattle.std.specs.List.{remove}
use Rattle.mz_tree.specs.Plain.{Atom}
use Rattle.mz_tree.specs.Programs.{Con}
use Rattle.mz_decl.specs.Contents.{opened}
use Rattle.mz_decl.specs.Declarations.{Decls, clause_of}
use Rattle.mz_modes.specs.Affine.{Affine}
use Rattle.mz_elab.specs.Finding.{OpensAs}
use Rattle.mz_elab.proofs.Inserted.{take_removed, drop_removed}

module _ (D : Decls) (R : List (Atom ℕ)) (place name d con : ℕ) (names : List ℕ) (made : Con) where
  -- what is known goes to the end
  pub opens_end : (S all : List (Atom ℕ)) (end : ℕ) → slice_get D.cons con ≡ Some made → (Affine D d → ⊥) → all ≡ opened name con names (clause_of D d) made.fields → end ≡ length R → S ≡ take end R ++ all ++ drop end R → OpensAs D R place name d con names S end
  opens_end S all end is plain k e s = record {
    made = made;
    is_con = is;
    opens = inr (
      plain,
      s ∙ ap (λ l. take end R ++ l ++ drop end R) k ∙ ap (λ l. take end R ++ opened name con names (clause_of D d) made.fields ++ l) (drop_all end R (omega (arith, e))) ∙ append-nil (take end R ++ opened name con names (clause_of D d) made.fields) ∙ ap (λ l. l ++ opened name con names (clause_of D d) made.fields) (take_all end R (omega (arith, e))),
      e,
    );
  }

  -- or in the place of an affine permission
  pub opens_here : (less S all : List (Atom ℕ)) → slice_get D.cons con ≡ Some made → Affine D d → all ≡ opened name con names (clause_of D d) made.fields → place < length R → less ≡ remove R place → S ≡ take place less ++ all ++ drop place less → OpensAs D R place name d con names S place
  opens_here less S all is affine k h e s = record {
    made = made;
    is_con = is;
    opens = inl (
      affine,
      s ∙ ap (λ l. take place l ++ all ++ drop place l) e ∙ ap (λ l. l ++ all ++ drop place (remove R place)) (take_removed R place h) ∙ ap (λ l. take place R ++ all ++ l) (drop_removed R place h) ∙ ap (λ l. take place R ++ l ++ drop (suc place) R) k,
      refl,
    );
  }
