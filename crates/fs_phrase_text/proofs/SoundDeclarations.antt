-- What is read is spelled, and what leads somewhere begins a declaration.
use Rattle.std.proofs.Common.{◌≡◌, ℕ, List, [], ◌∷◌, ◌++◌, Option, Some, None, refl, sym, ap, subst, append_assoc}
use Rattle.std.specs.Prelude.{IfSome}
use Rattle.std.proofs.lemmas.List.{append-nil}
use Rattle.fs_model.specs.declared.parts.Role.TheVariants.{Output}
use Rattle.fs_model.specs.declared.parts.Sort.TheVariants as sorts
use Rattle.fs_model.specs.Source.{Declaration}
use Rattle.fs_grammar.specs.declared.format.Format.{Format}
use Rattle.fs_grammar.specs.declared.token.TokenKind.{TokenKind}
use Rattle.fs_grammar.specs.declared.token.TokenKind.TheVariants.{Declare, Array, Port, Name, Comma, Semicolon}
use Rattle.fs_grammar.specs.Spelling as grammar
use Rattle.fs_grammar.specs.Spelling.{Word, at, AreNames, IsDeclaration}
use Rattle.fs_grammar.specs.WordWalks.{and_then}
use Rattle.fs_grammar.specs.Beginnings as rules
use Rattle.fs_grammar.specs.Beginnings.{Begins, by_parts, by_nothing, by_next, token_whole, rule_whole}
use Rattle.fs_grammar.proofs.Alternatives.{front_begins}
use Rattle.fs_grammar.proofs.Reached as before
use Rattle.fs_grammar.proofs.Reached.{Declares, Declared}
use Rattle.fs_grammar.proofs.Beginning.{declares_in, before_name}
use Rattle.fs_grammar.proofs.Sound.{names_more, snoc}
use Rattle.fs_phrase_text.specs.Declaring.{Declaring, at_sort, at_name, after_name, Lead, inside, whole, declaration_step}
use Rattle.fs_phrase_text.specs.Declarations.{Opening, of_role, of_port, opening_word, declaration_start, IsOf, BeginsOne}

-- where words lead, or none where one of them cannot follow
abbrev pub walk : List Word → Lead → Option Lead
walk [] l = Some l
walk (at n t ∷ ws) (inside s) = and_then (declaration_step s t) (walk ws)
walk (at n t ∷ ws) (whole d) = None

-- what has been read, the first word included
abbrev Reached : Format → Lead → List Word → Type 0
Reached f (inside (at_sort n r)) ws = ws ≡ at n (Declare r) ∷ []
Reached f (inside (at_name d)) ws = Declares f d ws
Reached f (inside (after_name d)) ws = Declared f d ws
Reached f (whole d) ws = IsDeclaration f d ws

keeps : (f : Format) (n : ℕ) (t : TokenKind) (s : Declaring) (ws : List Word) → Reached f (inside s) ws
    → IfSome (declaration_step s t) (λ l. Reached f l (ws ++ at n t ∷ []))
keeps f n Array (at_sort m r) ws h = record {
  a = at m (Declare r) ∷ at n Array ∷ [];
  b = [];
  front = grammar.arrays f m n r;
  back = before.no_name;
  is = ap (λ (l : List Word). l ++ at n Array ∷ []) h;
}
keeps f n (Name x) (at_sort m r) ws h = record {
  a = at m (Declare r) ∷ [];
  b = at n (Name x) ∷ [];
  front = grammar.scalars f m r;
  back = grammar.one_name n x;
  is = ap (λ (l : List Word). l ++ at n (Name x) ∷ []) h;
}
keeps f n (Name x) (at_name d) ws h = record {
  a = h.a;
  b = h.b ++ at n (Name x) ∷ [];
  front = h.front;
  back = names_more d.names h.b h.back n x;
  is = snoc ws h.a h.b (at n (Name x)) h.is;
}
keeps f n Comma (after_name d) ws h = record {
  a = h.a;
  b = h.b ++ at n Comma ∷ [];
  front = h.front;
  back = before.comma n h.back;
  is = snoc ws h.a h.b (at n Comma) h.is;
}
keeps f n Semicolon (after_name d) ws h = subst (λ (l : List Word). IsDeclaration f d l) (sym (snoc ws h.a h.b (at n Semicolon) h.is))
    (grammar.declaration f d.line n d.role d.sort d.names h.front h.back)
keeps f n _ (at_sort m r) ws h = tt
keeps f n _ (at_name d) ws h = tt
keeps f n _ (after_name d) ws h = tt

-- ---- many words

stepped : (f : Format) (o : Option Lead) (w : Word) (ws done : List Word) (r : Lead)
    → ((m : Lead) (d : List Word) → Reached f m d → walk ws m ≡ Some r → Reached f r (d ++ ws))
    → IfSome o (λ m. Reached f m (done ++ w ∷ [])) → and_then o (walk ws) ≡ Some r → Reached f r (done ++ (w ∷ ws))
stepped f None w ws done r go h q = absurd cc
stepped f (Some m) w ws done r go h q = subst (λ (l : List Word). Reached f r l) (append_assoc done (w ∷ []) ws) (go m (done ++ w ∷ []) h q)

reached_on : (f : Format) (ws : List Word) (r l : Lead) (done : List Word) → Reached f l done → walk ws l ≡ Some r → Reached f r (done ++ ws)
reached_on f [] r l done h q =
    let same : l ≡ r = cc in
    subst (λ (m : Lead). Reached f m (done ++ [])) same (subst (λ (v : List Word). Reached f l v) (sym (append-nil done)) h)
reached_on f (at n t ∷ ws) r (inside s) done h q = stepped f (declaration_step s t) (at n t) ws done r (λ m d. reached_on f ws r m d) (keeps f n t s done h) q
reached_on f (at n t ∷ ws) r (whole d) done h q = absurd cc

at_start : (f : Format) (o : Opening) → IsOf f o → Reached f (inside (declaration_start o)) (opening_word o ∷ [])
at_start f (of_role n r) h = refl
at_start f (of_port n) h =
    subst (λ (g : Format). Declares g (record { line = n; role = Output; sort = sorts.Port; names = [] }) (at n Port ∷ [])) (sym h)
    (record { a = at n Port ∷ []; b = []; front = grammar.ports n; back = before.no_name; is = refl })

reached : (f : Format) (o : Opening) (ws : List Word) (r : Lead) → IsOf f o → walk ws (inside (declaration_start o)) ≡ Some r
    → Reached f r (opening_word o ∷ ws)
reached f o ws r h q = reached_on f ws r (inside (declaration_start o)) (opening_word o ∷ []) (at_start f o h) q

-- Words that lead to the end of a declaration spell it.
pub sound : (f : Format) (o : Opening) (ws : List Word) (d : Declaration) → IsOf f o → walk ws (inside (declaration_start o)) ≡ Some (whole d)
    → IsDeclaration f d (opening_word o ∷ ws)
sound f o ws d h q = reached f o ws (whole d) h q

-- ---- what begins

some_names : (xs : List (List ℕ)) (a : List Word) → AreNames xs a → Begins rules.names a
some_names xs a p = subst (λ (l : List Word). Begins rules.names l) (append-nil a)
    (by_parts rules.names (rules.more_names []) (rule_whole rules.names a (xs, p) (by_nothing _)))

begins : (f : Format) (l : Lead) (ws : List Word) → Reached f l ws → Begins (rules.declaration f) ws
begins f (inside (at_sort n r)) ws h =
    subst (λ (l : List Word). Begins (rules.declaration f) l) (sym h)
    (by_parts (rules.declaration f) (rules.one_declaration f)
    (by_next (rules.kind f) _ (by_parts (rules.kind f) (rules.scalars f r) (token_whole n (Declare r) (by_nothing _)))))
begins f (inside (at_name d)) ws h = declares_in f d h.a h.b ws h.front (before_name d.names h.b h.back) h.is
begins f (inside (after_name d)) ws h = declares_in f d h.a h.b ws h.front (some_names d.names h.b h.back) h.is
begins f (whole d) ws h = front_begins (rules.declaration f) ws [] (d, subst (λ (l : List Word). IsDeclaration f d l) (sym (append-nil ws)) h)

-- Words that lead somewhere begin a declaration.
pub leads : (f : Format) (o : Opening) (ws : List Word) (r : Lead) → IsOf f o → walk ws (inside (declaration_start o)) ≡ Some r → BeginsOne f o ws
leads f o ws r h q = begins f r (opening_word o ∷ ws) (reached f o ws r h q)
