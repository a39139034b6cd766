-- Which positions the first two passes of a rebase make free: of a couple with equal values never the second one.
use Rattle.std.proofs.Common.{◌≡◌, pos, cond, Bool, true, false, refl, ap, sym, subst, ◌∙◌, List, [], ◌∷◌, Option, Some, None, map}
use Rattle.std.specs.Prelude.{is_some}
use Rattle.std.proofs.lemmas.Bool.{and_from}
use Rattle.fs_model.specs.declared.parts.Sort.{Sort}
use Rattle.fs_model.specs.declared.parts.Sort.TheVariants as sort
use Rattle.fs_pair.specs.declared.positions.Position.{Position}
use Rattle.nf_trees.specs.NormalTerms.{Polynomial, ArrayTerm, Zero, Over, NoWrites, Write, polynomial_of_symbol, bare_array}
use Rattle.nf_terms.specs.Lists.{bare_list}
use Rattle.nf_terms.specs.Symbols.{symbols_of}
use Rattle.nf_terms.specs.Computed.{Computed, Done, after}
use Rattle.nf_terms.specs.declared.symbols.Sort.{Sort as TermSort}
use Rattle.nf_terms.specs.declared.symbols.Sort.TheVariants as term
use Rattle.fs_model.specs.declared.sides.Pos.{Pos}
use Rattle.nf_trees.specs.declared.tree.Base.{Base}
use Rattle.nf_trees.specs.declared.tree.Base.TheVariants as base
use Rattle.nf_terms.specs.declared.tree.SeqBase.{SeqBase}
use Rattle.nf_terms.specs.declared.tree.SeqBase.TheVariants as list
use Rattle.nf_terms.specs.declared.form.Nf.{Nf}
use Rattle.nf_terms.specs.declared.form.Nf.TheVariants.{Num, Arr, Seq}
use Rattle.nf_terms.proofs.Computed.{same_Done}
use Rattle.nf_sums.proofs.Values.{goes_done}
use Rattle.nf_substitution.specs.Vectors.{form_at, with_form, number_or, array_or, list_or, number_at, array_form, list_at}
use Rattle.nf_substitution.proofs.LoneSymbols.{bare_number_is}
use Rattle.nf_substitution.specs.Substitution.{polynomial_substituted}
use Rattle.sym_facts.specs.Facts.{sort_of_terms, own_symbol}
use Rattle.sym_facts.specs.Entailment.{form_substituted}
use Rattle.sym_facts.proofs.StartSolved.{own_sort_of}
use Rattle.search_tables.specs.Rebases.{value_at, is_held, number_held, form_held, bare_base, symbol_of_array, symbol_of_list}
use Rattle.search_tables.specs.Rebases.{bare_symbol, RebaseState, with_mark, unheld_symbol, symbol_found, first_by}
use Rattle.search_tables.specs.Rebases.{first_pass, Split, split_off_symbol, less_rest}
use Rattle.search_tables.specs.Rebases.{Solution}
use Rattle.search_tables.specs.Rebases.{solution, second_pass_solution, second_by, second_pass}
use Rattle.alike_searches.specs.Risen.{is_risen}
use Rattle.alike_searches.proofs.SubstitutedWorth.{symbol_substituted}
use Rattle.alike_searches.specs.EvenFacts.{AreEvenValues}
use Rattle.alike_searches.proofs.Extending.{Extends, extends_self, extends_on, all_held, put_extends, put_there}
use Rattle.alike_searches.proofs.Splits.{split_from, split_none, solved_back}

-- ---- symbols alone

bare_base_is : (b : Base) (s : Pos) → bare_base b ≡ Some s → b ≡ base.Sym s
bare_base_is base.Zero s e = absurd (cc e)
bare_base_is (base.Sym p) s e = let k : p ≡ s = cc e in ap base.Sym k

bare_array_is : (t : ArrayTerm) (s : Pos) → symbol_of_array t ≡ Some s → t ≡ bare_array (base.Sym s)
bare_array_is (Over b NoWrites) s e = ap bare_array (bare_base_is b s e)
bare_array_is (Over b (Write i x ws)) s e = absurd (cc e)

bare_list_is : (b : SeqBase) (ps : List Polynomial) (s : Pos) → symbol_of_list b ps ≡ Some s → record { base = b; items = ps } ≡ bare_list (list.Sym s)
bare_list_is list.Empty [] s e = absurd (cc e)
bare_list_is (list.Sym p) [] s e = let k : p ≡ s = cc e in ap (λ z. bare_list (list.Sym z)) k
bare_list_is b (p ∷ ps) s e = absurd (by_base b e)
  where
    by_base : (b : SeqBase) → symbol_of_list b (p ∷ ps) ≡ Some s → ⊥
    by_base list.Empty g = cc g
    by_base (list.Sym q) g = cc g

module _ (v : List (Pos × Nf)) where
  bare_is : (s : Sort) (p x : Pos) → bare_symbol (value_at v s p) ≡ Some x → value_at v s p ≡ own_symbol s x
  bare_is sort.Scalar p x e = ap Num (bare_number_is (number_at v p) x e)
  bare_is sort.Array p x e = ap Arr (bare_array_is (array_form v p) x e)
  bare_is sort.Port p x e = ap Seq (bare_list_is (list_at v p).base (list_at v p).items x e)

-- the value of a position with a symbol as its form
value_of_form : (fs : List (Pos × Nf)) (s : Sort) (x p : Pos) → form_at (sort_of_terms s) x fs ≡ Some (own_symbol s p) → value_at fs s x ≡ own_symbol s p
value_of_form fs sort.Scalar x p e = ap (λ o. Num (number_or (polynomial_of_symbol x) o)) e
value_of_form fs sort.Array x p e = ap (λ o. Arr (array_or (bare_array (base.Sym x)) o)) e
value_of_form fs sort.Port x p e = ap (λ o. Seq (list_or (bare_list (list.Sym x)) o)) e

-- a symbol that is substituted gives the symbol that stands for it
symbol_gives : (fs : List (Pos × Nf)) (s : Sort) (x p : Pos) (u : Nf) → value_at fs s x ≡ own_symbol s p → form_substituted fs (own_symbol s x) ≡ Done u
    → u ≡ own_symbol s p
symbol_gives fs sort.Scalar x p u e g =
    let t = goes_done (polynomial_substituted fs (polynomial_of_symbol x)) (λ q. Done (Num q)) u g in
    let n : number_at fs x ≡ polynomial_of_symbol p = cc e in
    let r : is_risen (number_at fs x) ≡ true = subst (λ z. is_risen z ≡ true) (sym n) refl in
    sym (same_Done (Num t.middle) u t.next) ∙ ap Num (symbol_substituted fs x t.middle r t.first) ∙ e
symbol_gives fs sort.Array x p u e g = sym (same_Done (Arr (array_form fs x)) u g) ∙ e
symbol_gives fs sort.Port x p u e g = sym (same_Done (Seq (list_at fs x)) u g) ∙ e

symbol_held : (fs : List (Pos × Nf)) (s : Sort) (x : Pos) → is_held fs (x, sort_of_terms s) ≡ true → form_held fs (own_symbol s x) ≡ true
symbol_held fs sort.Scalar x h = and_from (is_held fs (x, term.Scalar)) true h refl
symbol_held fs sort.Array x h = and_from (is_held fs (x, term.Array)) true h refl
symbol_held fs sort.Port x h = and_from (is_held fs (x, term.List)) true h refl

-- ---- positions that are free

-- all symbols of a form are held, and substituted it gives this form
pub record GivesBack (fs : List (Pos × Nf)) (t f : Nf) : Type 0 where
  pub held : form_held fs t ≡ true
  pub back : (u : Nf) → form_substituted fs t ≡ Done u → u ≡ f

-- whatever is held besides, the value of a position gives back its symbol
pub record IsFreed (v ms : List (Pos × Nf)) (s : Sort) (p : Pos) : Type 0 where
  pub gives : (fs : List (Pos × Nf)) → Extends ms fs → GivesBack fs (value_at v s p) (own_symbol s p)

freed_later : (v ms ns : List (Pos × Nf)) (s : Sort) (p : Pos) → Extends ms ns → IsFreed v ms s p → IsFreed v ns s p
freed_later v ms ns s p e h = record { gives = λ fs g. h.gives fs (extends_on ms ns fs e g) }

abbrev pub place : Position → Pos × Sort
place p = (p.pos, p.sort)

-- of each couple the second one is not free, and a free first one gives back its symbol
abbrev pub Marks : (v ms : List (Pos × Nf)) → List Position → List Bool → Type 0
Marks v ms [] bs = Unit {0}
Marks v ms (p ∷ []) bs = Unit {0}
Marks v ms (p ∷ q ∷ ps) [] = ⊥
Marks v ms (p ∷ q ∷ ps) (b ∷ []) = ⊥
Marks v ms (p ∷ q ∷ ps) (b ∷ d ∷ bs) = (d ≡ false) × (b ≡ true → IsFreed v ms p.sort p.pos) × Marks v ms ps bs

pub record AreMarked (v : List (Pos × Nf)) (ps : List Position) (h : RebaseState) (ms : List (Pos × Nf)) : Type 0 where
  pub marks : Marks v h.meanings ps h.free
  pub grows : Extends ms h.meanings

module _ (v : List (Pos × Nf)) where
  -- ---- the first pass

  -- what a position that finds a symbol leaves
  record Finds (ms : List (Pos × Nf)) (s : Sort) (p x : Pos) : Type 0 where
    grows : Extends ms (with_form x (own_symbol s p) ms)
    freed : IsFreed v (with_form x (own_symbol s p) ms) s p
    now : is_held (with_form x (own_symbol s p) ms) (x, sort_of_terms s) ≡ true

  fresh_of : (ms : List (Pos × Nf)) (s : TermSort) (o : Option Pos) (x : Pos) → unheld_symbol ms s o ≡ Some x → (o ≡ Some x) × (is_held ms (x, s) ≡ false)
  fresh_of ms s None x e = absurd (cc e)
  fresh_of ms s (Some y) x e = by_test (is_held ms (y, s)) refl e
    where
      by_test : (b : Bool) → is_held ms (y, s) ≡ b → cond {A = Option Pos} b None (Some y) ≡ Some x → (Some y ≡ Some x) × (is_held ms (x, s) ≡ false)
      by_test true h g = absurd (cc g)
      by_test false h g = let k : y ≡ x = cc g in (g, sym (ap (λ z. is_held ms (z, s)) k) ∙ h)

  finds : (ms : List (Pos × Nf)) (s : Sort) (p x : Pos) → symbol_found v ms s p ≡ Some x → Finds ms s p x
  finds ms s p x e =
      let f = fresh_of ms (sort_of_terms s) (bare_symbol (value_at v s p)) x e in
      let is : value_at v s p ≡ own_symbol s x = bare_is v s p x f.0 in
      let there : form_at (sort_of_terms s) x (with_form x (own_symbol s p) ms) ≡ Some (own_symbol s p) =
      subst (λ z. form_at z x (with_form x (own_symbol s p) ms) ≡ Some (own_symbol s p)) (own_sort_of s p) (put_there ms x (own_symbol s p)) in
      let now : is_held (with_form x (own_symbol s p) ms) (x, sort_of_terms s) ≡ true = ap is_some there in
      record {
        grows = put_extends ms x (own_symbol s p) (ap (λ z. is_held ms (x, z)) (own_sort_of s p) ∙ f.1);
        freed = record { gives = λ fs g. back fs (sym (g.kept x (sort_of_terms s) now) ∙ there) is };
        now = now;
      }
    where
      back : (fs : List (Pos × Nf)) → form_at (sort_of_terms s) x fs ≡ Some (own_symbol s p) → value_at v s p ≡ own_symbol s x
          → GivesBack fs (value_at v s p) (own_symbol s p)
      back fs g is =
          record {
            held = ap (form_held fs) is ∙ symbol_held fs s x (ap is_some g);
            back = λ u h. symbol_gives fs s x p u (value_of_form fs s x p g) (sym (ap (form_substituted fs) is) ∙ h);
          }

  -- positions of one sort and one value find alike
  found_alike : (ms : List (Pos × Nf)) (s r : Sort) (p q : Pos) → s ≡ r → value_at v s p ≡ value_at v r q → symbol_found v ms s p ≡ symbol_found v ms r q
  found_alike ms s r p q c e = λ k. unheld_symbol ms (sort_of_terms (c k)) (bare_symbol (e k))

  -- after the first one has found its symbol, the second one finds none
  found_none : (ms : List (Pos × Nf)) (s r : Sort) (p q x : Pos) → s ≡ r → value_at v s p ≡ value_at v r q → symbol_found v ms s p ≡ Some x
      → symbol_found v (with_form x (own_symbol s p) ms) r q ≡ None
  found_none ms s r p q x c e g =
      let f = fresh_of ms (sort_of_terms s) (bare_symbol (value_at v s p)) x g in
      let ns = with_form x (own_symbol s p) ms in
      sym (found_alike ns s r p q c e) ∙ ap (unheld_symbol ns (sort_of_terms s)) f.0 ∙ ap (λ b. cond {A = Option Pos} b None (Some x)) (finds ms s p x g).now

  first_marks : (ps : List Position) → AreEvenValues v (map place ps) → (ms : List (Pos × Nf)) → AreMarked v ps (first_pass v ps ms) ms
  first_marks [] e ms = record { marks = tt; grows = extends_self ms }
  first_marks (p ∷ []) e ms = absurd e
  first_marks (p ∷ q ∷ ps) (c, e, es) ms = by_found (λ ns. first_marks ps es ns) (symbol_found v ms p.sort p.pos) refl
    where
      by_found : ((ns : List (Pos × Nf)) → AreMarked v ps (first_pass v ps ns) ns) → (o : Option Pos) → symbol_found v ms p.sort p.pos ≡ o
          → AreMarked v (p ∷ q ∷ ps)
          (first_by o p.sort p.pos ms (λ ns. first_by (symbol_found v ns q.sort q.pos) q.sort q.pos ns (λ ks. first_pass v ps ks))) ms
      by_found later None h =
          let i = later ms in
          subst (λ z. AreMarked v (p ∷ q ∷ ps) (with_mark false (first_by z q.sort q.pos ms (λ ks. first_pass v ps ks))) ms)
          (sym h ∙ found_alike ms p.sort q.sort p.pos q.pos c e)
          (record { marks = (refl, (λ f. absurd (let d : false ≡ true = f in cc d)), i.marks); grows = i.grows })
      by_found later (Some x) h =
          let ns = with_form x (own_symbol p.sort p.pos) ms in
          let k = finds ms p.sort p.pos x h in
          let i = later ns in
          subst (λ z. AreMarked v (p ∷ q ∷ ps) (with_mark true (first_by z q.sort q.pos ns (λ ks. first_pass v ps ks))) ms)
          (sym (found_none ms p.sort q.sort p.pos q.pos x c e h))
          (record {
            marks = (refl, (λ f. freed_later v ns (first_pass v ps ns).meanings p.sort p.pos i.grows k.freed), i.marks);
            grows = extends_on ms ns (first_pass v ps ns).meanings k.grows i.grows;
          })

  -- ---- the second pass

  -- what a position that is solved leaves
  record Solves (ms : List (Pos × Nf)) (s : Sort) (p : Pos) (x : Solution) : Type 0 where
    grows : Extends ms (with_form x.symbol (Num x.meaning) ms)
    freed : IsFreed v (with_form x.symbol (Num x.meaning) ms) s p

  solution_freed : (ms : List (Pos × Nf)) (p : Pos) (o : Option Split) (x : Solution) → split_off_symbol ms (number_at v p) ≡ o
      → solution ms p o ≡ Done (Some x)
      → Solves ms sort.Scalar p x
  solution_freed ms p None x s g = absurd (cc g)
  solution_freed ms p (Some y) x s g = by_test (number_held ms y.rest) refl g
    where
      by_test : (b : Bool) → number_held ms y.rest ≡ b
          → cond {A = Computed (Option Solution)} b
          (after (polynomial_substituted ms y.rest) (λ r. after (less_rest y.positive p r) (λ t. Done (Some (record { symbol = y.symbol; meaning = t })))))
          (Done None)
          ≡ Done (Some x) → Solves ms sort.Scalar p x
      by_test true i k =
          let a = goes_done (polynomial_substituted ms y.rest)
          (λ r. after (less_rest y.positive p r) (λ t. Done (Some (record { symbol = y.symbol; meaning = t })))) (Some x) k in
          let b = goes_done (less_rest y.positive p a.middle) (λ t. Done (Some (record { symbol = y.symbol; meaning = t }))) (Some x) a.next in
          let c : record { symbol = y.symbol; meaning = b.middle } ≡ x =
          some_is (record { symbol = y.symbol; meaning = b.middle }) x (same_Done (Some (record { symbol = y.symbol; meaning = b.middle })) (Some x) b.next) in
          subst (Solves ms sort.Scalar p) c (solving a.middle b.middle i a.first b.first)
        where
          some_is : (m n : Solution) → Some m ≡ Some n → m ≡ n
          some_is m n e = cc e

          solving : (r m : Polynomial) → number_held ms y.rest ≡ true → polynomial_substituted ms y.rest ≡ Done r → less_rest y.positive p r ≡ Done m
              → Solves ms sort.Scalar p (record { symbol = y.symbol; meaning = m })
          solving r m i e l =
              let f = split_from ms (number_at v p) y s in
              let ns = with_form y.symbol (Num m) ms in
              let grown = put_extends ms y.symbol (Num m) f.fresh in
              let there : form_at term.Scalar y.symbol ns ≡ Some (Num m) = put_there ms y.symbol (Num m) in
              record {
                grows = grown;
                freed = record {
                  gives = λ fs g.
                      let at : form_at term.Scalar y.symbol fs ≡ Some (Num m) = sym (g.kept y.symbol term.Scalar (ap is_some there)) ∙ there in
                      let ext = extends_on ms ns fs grown g in
                      record {
                        held = f.whole (is_held fs) (all_held ms fs ext (symbols_of y.rest) i) (ap is_some at);
                        back = λ u h. let t = goes_done (polynomial_substituted fs (number_at v p)) (λ q. Done (Num q)) u h in
                            sym (same_Done (Num t.middle) u t.next)
                            ∙ ap Num
                            (solved_back ms fs (number_at v p) y p r m t.middle s i e l ext (ap (number_or (polynomial_of_symbol y.symbol)) at) t.first);
                      };
                };
              }
      by_test false i k = absurd (let d : None ≡ Some x = same_Done None (Some x) k in cc d)

  solved_freed : (ms : List (Pos × Nf)) (s : Sort) (p : Pos) (x : Solution) → second_pass_solution false v ms s p ≡ Done (Some x) → Solves ms s p x
  solved_freed ms sort.Scalar p x g = solution_freed ms p (split_off_symbol ms (number_at v p)) x refl g
  solved_freed ms sort.Array p x g = absurd (let d : None ≡ Some x = same_Done None (Some x) g in cc d)
  solved_freed ms sort.Port p x g = absurd (let d : None ≡ Some x = same_Done None (Some x) g in cc d)

  solution_none : (ms : List (Pos × Nf)) (p q : Pos) (o : Option Split) → solution ms p o ≡ Done None → solution ms q o ≡ Done None
  solution_none ms p q None e = refl
  solution_none ms p q (Some x) e = by_test (number_held ms x.rest) e
    where
      by_test : (b : Bool) → cond {A = Computed (Option Solution)} b
          (after (polynomial_substituted ms x.rest) (λ r. after (less_rest x.positive p r) (λ t. Done (Some (record { symbol = x.symbol; meaning = t })))))
          (Done None) ≡ Done None
          → cond {A = Computed (Option Solution)} b
          (after (polynomial_substituted ms x.rest) (λ r. after (less_rest x.positive q r) (λ t. Done (Some (record { symbol = x.symbol; meaning = t })))))
          (Done None) ≡ Done None
      by_test true k =
          let a = goes_done (polynomial_substituted ms x.rest)
          (λ r. after (less_rest x.positive p r) (λ t. Done (Some (record { symbol = x.symbol; meaning = t })))) None k in
          let b = goes_done (less_rest x.positive p a.middle) (λ t. Done (Some (record { symbol = x.symbol; meaning = t }))) None a.next in
          absurd
          (let c : Some (record { symbol = x.symbol; meaning = b.middle }) ≡ None =
          same_Done (Some (record { symbol = x.symbol; meaning = b.middle })) None b.next in cc c)
      by_test false k = refl

  number_of_value : (p q : Pos) → value_at v sort.Scalar p ≡ value_at v sort.Scalar q → number_at v p ≡ number_at v q
  number_of_value p q e = cc e

  solved_none : (ms : List (Pos × Nf)) (s : Sort) (p q : Pos) → value_at v s p ≡ value_at v s q → second_pass_solution false v ms s p ≡ Done None
      → second_pass_solution false v ms s q ≡ Done None
  solved_none ms sort.Scalar p q e h = ap (λ t. solution ms q (split_off_symbol ms t)) (sym (number_of_value p q e))
      ∙ solution_none ms p q (split_off_symbol ms (number_at v p)) h
  solved_none ms sort.Array p q e h = refl
  solved_none ms sort.Port p q e h = refl

  -- after the first one is free, the second one is not solved
  stuck : (ms : List (Pos × Nf)) (s : Sort) (p q : Pos) → value_at v s p ≡ value_at v s q → IsFreed v ms s p → second_pass_solution false v ms s q ≡ Done None
  stuck ms sort.Scalar p q e f = ap (λ t. solution ms q (split_off_symbol ms t)) (sym (number_of_value p q e))
      ∙ ap (solution ms q) (split_none ms (number_at v p) (f.gives ms (extends_self ms)).held)
  stuck ms sort.Array p q e f = refl
  stuck ms sort.Port p q e f = refl

  record SecondStays (later : List (Pos × Nf) → Computed RebaseState) (ns : List (Pos × Nf)) (h : RebaseState) : Type 0 where
    rest : RebaseState
    given : later ns ≡ Done rest
    whole : with_mark false rest ≡ h

  second_stays : (ns : List (Pos × Nf)) (q : Position) (later : List (Pos × Nf) → Computed RebaseState) (h : RebaseState)
      → second_pass_solution false v ns q.sort q.pos ≡ Done None
      → after (second_pass_solution false v ns q.sort q.pos) (λ o. second_by false o ns later) ≡ Done h → SecondStays later ns h
  second_stays ns q later h e g =
      let k : after (later ns) (λ x. Done (with_mark false x)) ≡ Done h = sym (ap (λ z. after z (λ o. second_by false o ns later)) e) ∙ g in
      let s = goes_done (later ns) (λ x. Done (with_mark false x)) h k in
      record { rest = s.middle; given = s.first; whole = same_Done (with_mark false s.middle) h s.next }

  couple_marked : (p q : Position) (ps : List Position) (b : Bool) (ms ns : List (Pos × Nf)) (rest h1 h : RebaseState) → with_mark false rest ≡ h1
      → with_mark b h1 ≡ h → Extends ms ns → (b ≡ true → IsFreed v ns p.sort p.pos) → AreMarked v ps rest ns → AreMarked v (p ∷ q ∷ ps) h ms
  couple_marked p q ps b ms ns rest h1 h e g x f m =
      let k : with_mark b (with_mark false rest) ≡ h = ap (with_mark b) e ∙ g in
      subst (λ z. AreMarked v (p ∷ q ∷ ps) z ms) k
      (record { marks = (refl, (λ t. freed_later v ns rest.meanings p.sort p.pos m.grows (f t)), m.marks); grows = extends_on ms ns rest.meanings x m.grows })

  marks_later : (ps : List Position) (bs : List Bool) (ms ns : List (Pos × Nf)) → Extends ms ns → Marks v ms ps bs → Marks v ns ps bs
  marks_later [] bs ms ns x m = tt
  marks_later (p ∷ []) bs ms ns x m = tt
  marks_later (p ∷ q ∷ ps) [] ms ns x m = absurd m
  marks_later (p ∷ q ∷ ps) (b ∷ []) ms ns x m = absurd m
  marks_later (p ∷ q ∷ ps) (b ∷ d ∷ bs) ms ns x (i, j, k) = (i, (λ t. freed_later v ms ns p.sort p.pos x (j t)), marks_later ps bs ms ns x k)

  second_marks : (ps : List Position) → AreEvenValues v (map place ps) → (bs : List Bool) (ms : List (Pos × Nf)) (h : RebaseState) → Marks v ms ps bs
      → second_pass v ps bs ms ≡ Done h → AreMarked v ps h ms
  second_marks [] e bs ms h m g = subst (λ z. AreMarked v [] z ms) (same_Done (record { free = []; meanings = ms }) h g)
      (record { marks = tt; grows = extends_self ms })
  second_marks (p ∷ []) e bs ms h m g = absurd e
  second_marks (p ∷ q ∷ ps) e [] ms h m g = absurd m
  second_marks (p ∷ q ∷ ps) e (b ∷ []) ms h m g = absurd m
  second_marks (p ∷ q ∷ ps) e (b ∷ true ∷ bs) ms h (d, f, m) g = absurd (cc d)
  second_marks (p ∷ q ∷ ps) (c, e, es) (true ∷ false ∷ bs) ms h (d, f, m) g =
      let equal : value_at v q.sort p.pos ≡ value_at v q.sort q.pos = ap (λ z. value_at v z p.pos) (sym c) ∙ e in
      let s = goes_done (after (second_pass_solution false v ms q.sort q.pos) (λ o. second_by false o ms (λ ns. second_pass v ps bs ns)))
      (λ x. Done (with_mark true x)) h g in
      let r = second_stays ms q (λ ns. second_pass v ps bs ns) s.middle
      (stuck ms q.sort p.pos q.pos equal (subst (λ z. IsFreed v ms z p.pos) c (f refl))) s.first in
      couple_marked p q ps true ms ms r.rest s.middle h r.whole (same_Done (with_mark true s.middle) h s.next)
      (extends_self ms) f (second_marks ps es bs ms r.rest m r.given)
  second_marks (p ∷ q ∷ ps) (c, e, es) (false ∷ false ∷ bs) ms h (d, f, m) g =
      let a = goes_done (second_pass_solution false v ms p.sort p.pos)
      (λ o. second_by false o ms (λ ns. after (second_pass_solution false v ns q.sort q.pos) (λ o. second_by false o ns (λ ns. second_pass v ps bs ns)))) h g in
      by_solution (λ ns x k i. second_marks ps es bs ns x (marks_later ps bs ms ns k m) i) a.middle a.first a.next
    where
      equal : value_at v q.sort p.pos ≡ value_at v q.sort q.pos
      equal = ap (λ z. value_at v z p.pos) (sym c) ∙ e

      by_solution : ((ns : List (Pos × Nf)) (x : RebaseState) → Extends ms ns → second_pass v ps bs ns ≡ Done x → AreMarked v ps x ns) → (o : Option Solution)
          → second_pass_solution false v ms p.sort p.pos ≡ Done o
          → second_by false o ms (λ ns. after (second_pass_solution false v ns q.sort q.pos) (λ o. second_by false o ns (λ ns. second_pass v ps bs ns)))
          ≡ Done h
          → AreMarked v (p ∷ q ∷ ps) h ms
      by_solution again None i k =
          let s = goes_done (after (second_pass_solution false v ms q.sort q.pos) (λ o. second_by false o ms (λ ns. second_pass v ps bs ns)))
          (λ x. Done (with_mark false x)) h k in
          let r = second_stays ms q (λ ns. second_pass v ps bs ns) s.middle
          (solved_none ms q.sort p.pos q.pos equal (ap (λ z. second_pass_solution false v ms z p.pos) (sym c) ∙ i)) s.first in
          couple_marked p q ps false ms ms r.rest s.middle h r.whole (same_Done (with_mark false s.middle) h s.next) (extends_self ms)
          (λ t. absurd (let z : false ≡ true = t in cc z)) (again ms r.rest (extends_self ms) r.given)
      by_solution again (Some x) i k =
          let ns = with_form x.symbol (Num x.meaning) ms in
          let w = solved_freed ms p.sort p.pos x i in
          let s = goes_done (after (second_pass_solution false v ns q.sort q.pos) (λ o. second_by false o ns (λ ks. second_pass v ps bs ks)))
          (λ y. Done (with_mark true y)) h k in
          let r = second_stays ns q (λ ks. second_pass v ps bs ks) s.middle
          (stuck ns q.sort p.pos q.pos equal (subst (λ z. IsFreed v ns z p.pos) c w.freed)) s.first in
          couple_marked p q ps true ms ns r.rest s.middle h r.whole (same_Done (with_mark true s.middle) h s.next) w.grows (λ t. w.freed)
          (again ns r.rest w.grows r.given)

  pub passes_mark : (ps : List Position) (h : RebaseState) → AreEvenValues v (map place ps)
      → second_pass v ps (first_pass v ps []).free (first_pass v ps []).meanings ≡ Done h → Marks v h.meanings ps h.free
  passes_mark ps h e g =
      let i = first_marks ps e [] in
      (second_marks ps e (first_pass v ps []).free (first_pass v ps []).meanings h i.marks g).marks
