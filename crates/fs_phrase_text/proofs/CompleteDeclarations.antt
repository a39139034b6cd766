-- What is spelled is read, and what leads nowhere begins no declaration.
use Rattle.std.proofs.Common.{◌≡◌, ℕ, List, [], ◌∷◌, ◌++◌, Option, Some, None, refl, sym, ap, ◌∙◌, append_assoc}
use Rattle.fs_model.specs.declared.parts.Role.{Role}
use Rattle.fs_model.specs.declared.parts.Role.TheVariants.{Output}
use Rattle.fs_model.specs.declared.parts.Sort.{Sort}
use Rattle.fs_model.specs.declared.parts.Sort.TheVariants as sorts
use Rattle.fs_model.specs.Source.{Declaration}
use Rattle.fs_grammar.specs.declared.format.Format.{Format}
use Rattle.fs_grammar.specs.declared.token.TokenKind.TheVariants.{Declare, Array, Port, Name, Comma, Semicolon}
use Rattle.fs_grammar.specs.Spelling.{Word, at, AreNames, one_name, more_names, IsKind, scalars, arrays, ports, IsDeclaration, declaration}
use Rattle.fs_grammar.specs.WordWalks.{and_then}
use Rattle.fs_grammar.specs.Beginnings as rules
use Rattle.fs_grammar.proofs.Alternatives.{completed}
use Rattle.fs_phrase_text.specs.Declaring.{Declaring, at_sort, at_name, after_name, Lead, inside, whole, declaration_step}
use Rattle.fs_phrase_text.specs.Declarations.{Opening, of_role, of_port, opening_word, declaration_start, BeginsOne}
use Rattle.fs_phrase_text.proofs.SoundDeclarations.{walk}

regroup : (a b rest : List Word) (l : Lead) → walk ((a ++ b) ++ rest) l ≡ walk (a ++ (b ++ rest)) l
regroup a b rest l = ap (λ (v : List Word). walk v l) (append_assoc a b rest)

abbrev declared : ℕ → Role → Sort → List (List ℕ) → Declaration
declared n r s xs = record { line = n; role = r; sort = s; names = xs }

names_walk : (xs : List (List ℕ)) (a : List Word) → AreNames xs a → (rest : List Word) (n : ℕ) (r : Role) (s : Sort)
    → walk (a ++ rest) (inside (at_name (declared n r s []))) ≡ walk rest (inside (after_name (declared n r s xs)))
names_walk _ _ (one_name i x) rest n r s = refl
names_walk _ _ (more_names i j x {xs} {a} p) rest n r s = regroup a (at i Comma ∷ at j (Name x) ∷ []) rest (inside (at_name (declared n r s [])))
    ∙ names_walk xs a p (at i Comma ∷ at j (Name x) ∷ rest) n r s

scalars_walk : (xs : List (List ℕ)) (a : List Word) → AreNames xs a → (rest : List Word) (n : ℕ) (r : Role)
    → walk (a ++ rest) (inside (at_sort n r)) ≡ walk rest (inside (after_name (declared n r sorts.Scalar xs)))
scalars_walk _ _ (one_name i x) rest n r = refl
scalars_walk _ _ (more_names i j x {xs} {a} p) rest n r = regroup a (at i Comma ∷ at j (Name x) ∷ []) rest (inside (at_sort n r))
    ∙ scalars_walk xs a p (at i Comma ∷ at j (Name x) ∷ rest) n r

-- the first word says where the reading begins
role_starts : (o : Opening) (n : ℕ) (r : Role) → at n (Declare r) ≡ opening_word o → declaration_start o ≡ at_sort n r
role_starts (of_role m s) n r q = cc
role_starts (of_port m) n r q = absurd cc

port_starts : (o : Opening) (n : ℕ) → at n Port ≡ opening_word o → declaration_start o ≡ at_name (declared n Output sorts.Port [])
port_starts (of_role m s) n q = absurd cc
port_starts (of_port m) n q =
    let same : m ≡ n = cc in
    ap (λ (l : ℕ). at_name (declared l Output sorts.Port [])) same

-- words behind the first one, and where they begin
begun : (ws vs : List Word) (s u : Declaring) (r : Option Lead) → vs ≡ ws → s ≡ u → walk vs (inside u) ≡ r → walk ws (inside s) ≡ r
begun ws vs s u r p q h = ap (λ (l : List Word). walk l (inside s)) (sym p) ∙ ap (λ (v : Declaring). walk vs (inside v)) q ∙ h

kind_walks :
    (f : Format) (n : ℕ) (r : Role) (s : Sort) (a : List Word) → IsKind f n r s a → (xs : List (List ℕ)) (b : List Word) → AreNames xs b
    → (m : ℕ) (o : Opening) (ws : List Word) → a ++ (b ++ at m Semicolon ∷ []) ≡ opening_word o ∷ ws
    → walk ws (inside (declaration_start o)) ≡ Some (whole (declared n r s xs))
kind_walks _ _ _ _ _ (scalars f n r) xs b p m o ws q =
    let first : at n (Declare r) ≡ opening_word o = cc in
    let others : b ++ at m Semicolon ∷ [] ≡ ws = cc in
    begun ws (b ++ at m Semicolon ∷ []) (declaration_start o) (at_sort n r) (Some (whole (declared n r sorts.Scalar xs))) others (role_starts o n r first)
    (scalars_walk xs b p (at m Semicolon ∷ []) n r)
kind_walks _ _ _ _ _ (arrays f n k r) xs b p m o ws q =
    let first : at n (Declare r) ≡ opening_word o = cc in
    let others : at k Array ∷ (b ++ at m Semicolon ∷ []) ≡ ws = cc in
    begun ws (at k Array ∷ (b ++ at m Semicolon ∷ [])) (declaration_start o) (at_sort n r)
    (Some (whole (declared n r sorts.Array xs))) others (role_starts o n r first) (names_walk xs b p (at m Semicolon ∷ []) n r sorts.Array)
kind_walks _ _ _ _ _ (ports n) xs b p m o ws q =
    let first : at n Port ≡ opening_word o = cc in
    let others : b ++ at m Semicolon ∷ [] ≡ ws = cc in
    begun ws (b ++ at m Semicolon ∷ []) (declaration_start o) (at_name (declared n Output sorts.Port []))
    (Some (whole (declared n Output sorts.Port xs))) others (port_starts o n first) (names_walk xs b p (at m Semicolon ∷ []) n Output sorts.Port)

declaration_walks : (f : Format) (d : Declaration) (vs : List Word) → IsDeclaration f d vs → (o : Opening) (ws : List Word) → vs ≡ opening_word o ∷ ws
    → walk ws (inside (declaration_start o)) ≡ Some (whole d)
declaration_walks _ _ _ (declaration f n m r s xs {a} {b} k p) o ws q = kind_walks f n r s a k xs b p m o ws q

-- Words that spell a declaration behind its first word lead to its end.
pub complete : (f : Format) (o : Opening) (d : Declaration) (ws : List Word) → IsDeclaration f d (opening_word o ∷ ws)
    → walk ws (inside (declaration_start o)) ≡ Some (whole d)
complete f o d ws h = declaration_walks f d (opening_word o ∷ ws) h o ws refl

on_append : (o : Option Lead) (a b : List Word) → ((m : Lead) → walk (a ++ b) m ≡ and_then (walk a m) (walk b))
    → and_then o (walk (a ++ b)) ≡ and_then (and_then o (walk a)) (walk b)
on_append None a b h = refl
on_append (Some m) a b h = h m

pub walk_append : (a b : List Word) (l : Lead) → walk (a ++ b) l ≡ and_then (walk a l) (walk b)
walk_append [] b l = refl
walk_append (at n t ∷ a) b (inside s) = on_append (declaration_step s t) a b (λ m. walk_append a b m)
walk_append (at n t ∷ a) b (whole d) = refl

-- Words before which the reading sticks begin no declaration.
pub stuck : (f : Format) (o : Opening) (ws : List Word) → walk ws (inside (declaration_start o)) ≡ None → BeginsOne f o ws → ⊥
stuck f o ws q b =
    let m = completed (rules.declaration f) (opening_word o ∷ ws) b in
    let ends : walk (ws ++ m.0) (inside (declaration_start o)) ≡ Some (whole m.1.0) = complete f o m.1.0 (ws ++ m.0) m.1.1 in
    let none : walk (ws ++ m.0) (inside (declaration_start o)) ≡ None = rw (walk_append ws m.0 (inside (declaration_start o)), q) refl in
    cc
