-- The loop of the walk over the commands of a body.
use Rattle.std.proofs.Common.{◌≡◌, ℕ, ◌+◌, ◌<◌, ◌≤◌, List, [], ◌∷◌, ◌++◌, length, drop, reverse, get_or, Err, sym, ap, ◌∙◌, subst}
use Rattle.std.proofs.lemmas.List.{reverse-append}
use Rattle.mz_tree.specs.Plain.{Atom}
use Rattle.mz_tree.specs.Code.{Command, commands_in, commands_of, to_of, result_of}
use Rattle.mz_tree.specs.View.{plain_atom, plain_body, plain_command, plain_commands}
use Rattle.mz_tree.specs.declared.types.Place.{Place}
use Rattle.mz_tree.specs.declared.code.Command.{Command as CodeCommand}
use Rattle.mz_tree.specs.declared.code.Body.{Body as CodeBody, out-Body}
use Rattle.mz_tree.proofs.CodeViews.{plain_body_is, commands_in_body, result_of_body, brace_of_body}
use Rattle.mz_decl.specs.Declarations.{Decls}
use Rattle.mz_deriv.proofs.Lists.{next_of, none_of}
use Rattle.mz_elab.specs.Guided.{Guided, Guided_ends}
use Rattle.mz_elab.specs.Lacking.{Lacks}
use Rattle.mz_elab.specs.Joins.{End, end_of}
use Rattle.mz_elab.specs.Scoping.{ScopedBody, ScopedCommand, ScopedCommands, AllScoped}
use Rattle.mz_elab.specs.Walking.{Reaches, GoesOver, BodyOr}
use Rattle.mz_elab.specs.declared.fault.ElabFault.{ElabFault}
use Rattle.mz_elab.specs.declared.fault.ElabFault.TheVariants.{NoPermission, Memory}

-- the loop stands before command i, where these names are bound, at this state and this next fresh name
pub record Stands (D : Decls) (names : List ℕ) (R : List (Atom ℕ)) (n : ℕ) (commands : List CodeCommand) (i : ℕ) (now : List ℕ) (S : List (Atom ℕ)) (k : ℕ) : Type 0 where
  pub reaches : Reaches D names R n (plain_commands commands) (reverse now) S k (plain_commands (drop i commands))
  pub scoped : AllScoped D (reverse now) (plain_commands (drop i commands))

-- the commands of a scoped body are scoped, one after the other
all_scoped : (D : Decls) (names : List ℕ) (value : ℕ) (commands : List Command) → ScopedCommands D names value (commands_of commands) → AllScoped D names commands
all_scoped D names value [] s = record {}
all_scoped D names value (c ∷ commands) s = (s.0, all_scoped D (to_of c ∷ names) value commands s.1)

body_scoped : (D : Decls) (names : List ℕ) (b : CodeBody) → ScopedBody D names (plain_body b) → AllScoped D names (plain_commands (out-Body b).commands)
body_scoped D names b s = all_scoped D names (out-Body b).result (plain_commands (out-Body b).commands) (subst (ScopedBody D names) (plain_body_is b) s)

pub walk_start : (D : Decls) (names : List ℕ) (R : List (Atom ℕ)) (n : ℕ) (b : CodeBody) (now : List ℕ) → ScopedBody D names (plain_body b) → reverse now ≡ names → Stands D names R n (out-Body b).commands 0 now R n
walk_start D names R n b now s e = record {
  reaches = subst (λ l. Reaches D names R n (plain_commands (out-Body b).commands) l R n (plain_commands (out-Body b).commands)) (sym e) (record { guided = λ T m g. g; lacks = λ place a l. l });
  scoped = subst (λ l. AllScoped D l (plain_commands (out-Body b).commands)) (sym e) (body_scoped D names b s);
}

module _ (D : Decls) (names : List ℕ) (R : List (Atom ℕ)) (n : ℕ) (commands : List CodeCommand) (i : ℕ) (now : List ℕ) (S : List (Atom ℕ)) (k : ℕ) (c : CodeCommand) where
  -- what is left begins with command i
  left_is : i < length commands → c ≡ get_or commands i c → plain_commands (drop i commands) ≡ plain_command c ∷ plain_commands (drop (i + 1) commands)
  left_is w h = next_of plain_command commands i c w h

  -- it is scoped
  pub scoped_here : i < length commands → c ≡ get_or commands i c → Stands D names R n commands i now S k → ScopedCommand D (reverse now) (plain_command c)
  scoped_here w h s = (subst (AllScoped D (reverse now)) (left_is w h) s.scoped).0

  -- the rules lead over it
  pub walk_next : (T : List (Atom ℕ)) (m : ℕ) (later : List ℕ) → i < length commands → c ≡ get_or commands i c → Stands D names R n commands i now S k → reverse later ≡ to_of (plain_command c) ∷ reverse now →
      ((rest : List Command) → Reaches D (reverse now) S k (plain_command c ∷ rest) (to_of (plain_command c) ∷ reverse now) T m rest) → Stands D names R n commands (i + 1) later T m
  walk_next T m later w h s e g =
      let rest = plain_commands (drop (i + 1) commands) in
      let more = to_of (plain_command c) ∷ reverse now in
      let r = subst (Reaches D names R n (plain_commands commands) (reverse now) S k) (left_is w h) s.reaches in
      let all = subst (AllScoped D (reverse now)) (left_is w h) s.scoped in
      record {
        reaches = subst (λ l. Reaches D names R n (plain_commands commands) l T m rest) (sym e) (record {
          guided = λ U p x. r.guided U p ((g rest).guided U p x);
          lacks = λ place a x. r.lacks place a ((g rest).lacks place a x);
        });
        scoped = subst (λ l. AllScoped D l rest) (sym e) all.1;
      }

  -- or it is wanting something
  pub walk_lacks : (b : CodeBody) (place : Place) (a : Atom ℕ) → commands ≡ (out-Body b).commands → i < length commands → c ≡ get_or commands i c → Stands D names R n commands i now S k →
      ((rest : List Command) → Lacks D (reverse now) S k (plain_command c ∷ rest) place a) → Lacks D names R n (commands_in (plain_body b)) place a
  walk_lacks b place a e w h s l =
      let r = subst (Reaches D names R n (plain_commands commands) (reverse now) S k) (left_is w h) s.reaches in
      subst (λ cs. Lacks D names R n cs place a) (ap plain_commands e ∙ sym (commands_in_body b)) (r.lacks place a (l (plain_commands (drop (i + 1) commands))))

  pub walk_fault : (b : CodeBody) (T : List (Atom ℕ)) (m j : ℕ) (fault : ElabFault) → commands ≡ (out-Body b).commands → i < length commands → c ≡ get_or commands i c → Stands D names R n commands i now S k →
      GoesOver {A = Unit {0}} D (reverse now) S k (plain_command c) T m (Err fault) → BodyOr D names R n (plain_body b) j (Err fault)
  walk_fault b T m j (NoPermission place a) e w h s l = walk_lacks b place (plain_atom a) e w h s l
  walk_fault b T m j Memory e w h s l = record {}

-- the names that are bound once one more is
pub bound_more : (now later : List ℕ) (name : ℕ) → later ≡ now ++ name ∷ [] → reverse later ≡ name ∷ reverse now
bound_more now later name e = ap reverse e ∙ reverse-append now (name ∷ [])

-- behind the last command stands the end of the body
pub walk_end : (D : Decls) (names : List ℕ) (R : List (Atom ℕ)) (n : ℕ) (b : CodeBody) (i : ℕ) (now : List ℕ) (S : List (Atom ℕ)) (k : ℕ) → length (out-Body b).commands ≤ i → Stands D names R n (out-Body b).commands i now S k →
    Guided D names R n (commands_in (plain_body b)) S k
walk_end D names R n b i now S k w s =
    subst (λ cs. Guided D names R n cs S k) (sym (commands_in_body b))
    (s.reaches.guided S k (subst (λ cs. Guided D (reverse now) S k cs S k) (sym (none_of plain_command (out-Body b).commands i w)) (Guided_ends (reverse now) S k)))

pub end_is : (b : CodeBody) (T : List (Atom ℕ)) (e : End) → e.state ≡ T → e.value ≡ (out-Body b).result → e.brace ≡ (out-Body b).place → e ≡ end_of (plain_body b) T
end_is b T e s v p = ap (λ t. record { state = t; value = e.value; brace = e.brace }) s ∙ ap (λ x. record { state = T; value = x; brace = e.brace }) (v ∙ sym (result_of_body b)) ∙ ap (λ x. record { state = T; value = result_of (plain_body b); brace = x }) (p ∙ sym (brace_of_body b))
