-- A symbol that is split off a number, and what its new meaning gives back.
use Rattle.std.proofs.Common.{◌≡◌, ℤ, pos, neg_ℤ, ◌+ℤ◌, ◌*ℤ◌, Bool, true, false, arith, refl, ap, ap₂, sym, subst, ◌∙◌, List, Option, Some, None}
use Rattle.std.specs.Prelude.{◌&&◌, option_map}
use Rattle.std.specs.List.{list_all}
use Rattle.std.specs.Ordering.{int_eq}
use Rattle.std.specs.Cmp.{signed_Decides}
use Rattle.std.proofs.lemmas.Int.{ints}
use Rattle.std.proofs.lemmas.Bool.{and_from}
use Rattle.fs_model.proofs.Booleans.{and_first}
use Rattle.nf_trees.specs.NormalTerms.{Monomial, Polynomial, Symbol, One, Times, Zero, Plus, polynomial_of_symbol}
use Rattle.nf_terms.specs.Symbols.{symbols_of_monomial, symbols_of}
use Rattle.nf_terms.specs.Computed.{Done, after}
use Rattle.nf_terms.specs.declared.symbols.Sort.{Sort as TermSort}
use Rattle.nf_terms.specs.declared.symbols.Sort.TheVariants as term
use Rattle.fs_model.specs.declared.sides.Pos.{Pos}
use Rattle.nf_terms.specs.declared.form.Nf.{Nf}
use Rattle.nf_terms.proofs.Computed.{same_Done}
use Rattle.nf_sums.specs.OrderedSums.{worth_of, IgnoresOrder}
use Rattle.nf_sums.specs.Operations.{normal_sum, number}
use Rattle.nf_sums.proofs.Values.{goes_done}
use Rattle.nf_substitution.specs.Vectors.{number_at}
use Rattle.nf_substitution.proofs.LoneSymbols.{lone_is}
use Rattle.nf_substitution.specs.Substitution.{atoms_substituted, terms_substituted, polynomial_substituted}
use Rattle.search_tables.specs.Rebases.{is_held, number_held, lone_symbol, Split, with_more_of_split, split_by, split_at, split_off_symbol, less_rest}
use Rattle.alike_searches.proofs.RisenForms.{settled_by_worth}
use Rattle.alike_searches.proofs.RisenSubstitutions.{substituted_rises}
use Rattle.alike_searches.proofs.SubstitutedWorth.{sum_worth, difference_worth, unit_worth, shift}
use Rattle.alike_searches.proofs.Extending.{all_left, all_right, all_joined, Extends, terms_again}

-- ---- the symbol is not held, and with it all symbols are

pub record SplitFrom (ms : List (Pos × Nf)) (p : Polynomial) (x : Split) : Type 0 where
  pub fresh : is_held ms (x.symbol, term.Scalar) ≡ false
  pub whole : (n : Pos × TermSort → Bool) → list_all n (symbols_of x.rest) ≡ true → n (x.symbol, term.Scalar) ≡ true → list_all n (symbols_of p) ≡ true

module _ (ms : List (Pos × Nf)) where
  lone_passes : (n : Pos × TermSort → Bool) (m : Monomial) (s : Pos) → m ≡ Times (Symbol s) One → n (s, term.Scalar) ≡ true
      → list_all n (symbols_of_monomial m) ≡ true
  lone_passes n m s e h = ap (λ z. list_all n (symbols_of_monomial z)) e ∙ and_from (n (s, term.Scalar)) true h refl

  from_here : (m : Monomial) (c : ℤ) (p : Polynomial) (s : Pos) (positive : Bool) → m ≡ Times (Symbol s) One → is_held ms (s, term.Scalar) ≡ false
      → SplitFrom ms (Plus m c p) (record { symbol = s; positive = positive; rest = p })
  from_here m c p s positive e f = record { fresh = f; whole = λ n h g. all_joined n (symbols_of_monomial m) (symbols_of p) (lone_passes n m s e g) h }

  from_more : (m : Monomial) (c : ℤ) (p : Polynomial) (o : Option Split) (x : Split) → ((y : Split) → o ≡ Some y → SplitFrom ms p y)
      → option_map (with_more_of_split m c) o ≡ Some x → SplitFrom ms (Plus m c p) x
  from_more m c p None x h e = absurd (cc e)
  from_more m c p (Some y) x h e =
      let k : with_more_of_split m c y ≡ x = cc e in
      let f = h y refl in
      subst (SplitFrom ms (Plus m c p)) k
      (record {
        fresh = f.fresh;
        whole = λ n i g. all_joined n (symbols_of_monomial m) (symbols_of p) (all_left n (symbols_of_monomial m) (symbols_of y.rest) i)
            (f.whole n (all_right n (symbols_of_monomial m) (symbols_of y.rest) i) g);
      })

  pub split_from : (p : Polynomial) (x : Split) → split_off_symbol ms p ≡ Some x → SplitFrom ms p x
  split_from Zero x e = absurd (cc e)
  split_from (Plus m c p) x e = by_symbol (lone_symbol m) refl (λ g. from_more m c p (split_off_symbol ms p) x (λ y i. split_from p y i) g) e
    where
      by_tests : (s : Pos) → lone_symbol m ≡ Some s → (option_map (with_more_of_split m c) (split_off_symbol ms p) ≡ Some x → SplitFrom ms (Plus m c p) x)
          → (b one minus : Bool) → is_held ms (s, term.Scalar) ≡ b
          → split_by b one minus s p (option_map (with_more_of_split m c) (split_off_symbol ms p)) ≡ Some x → SplitFrom ms (Plus m c p) x
      by_tests s l next true one minus f i = next i
      by_tests s l next false true minus f i = let k : record { symbol = s; positive = true; rest = p } ≡ x = cc i in
          subst (SplitFrom ms (Plus m c p)) k (from_here m c p s true (lone_is m s l) f)
      by_tests s l next false false true f i = let k : record { symbol = s; positive = false; rest = p } ≡ x = cc i in
          subst (SplitFrom ms (Plus m c p)) k (from_here m c p s false (lone_is m s l) f)
      by_tests s l next false false false f i = next i

      by_symbol : (o : Option Pos) → lone_symbol m ≡ o → (option_map (with_more_of_split m c) (split_off_symbol ms p) ≡ Some x → SplitFrom ms (Plus m c p) x)
          → split_at ms c o p (option_map (with_more_of_split m c) (split_off_symbol ms p)) ≡ Some x → SplitFrom ms (Plus m c p) x
      by_symbol None l next g = next g
      by_symbol (Some s) l next g = by_tests s l next (is_held ms (s, term.Scalar)) (int_eq c (pos 1)) (int_eq c (neg_ℤ (pos 1))) refl g

  -- where all symbols are held, nothing is split off
  pub split_none : (p : Polynomial) → list_all (is_held ms) (symbols_of p) ≡ true → split_off_symbol ms p ≡ None
  split_none Zero h = refl
  split_none (Plus m c p) h =
      by_symbol (ap (option_map (with_more_of_split m c)) (split_none p (all_right (is_held ms) (symbols_of_monomial m) (symbols_of p) h))) (lone_symbol m) refl
    where
      by_symbol : option_map (with_more_of_split m c) (split_off_symbol ms p) ≡ None → (o : Option Pos) → lone_symbol m ≡ o
          → split_at ms c o p (option_map (with_more_of_split m c) (split_off_symbol ms p)) ≡ None
      by_symbol rest None l = rest
      by_symbol rest (Some s) l =
          let g : is_held ms (s, term.Scalar) && true ≡ true = sym (ap (λ z. list_all (is_held ms) (symbols_of_monomial z)) (lone_is m s l))
          ∙ all_left (is_held ms) (symbols_of_monomial m) (symbols_of p) h in
          ap (λ b. split_by b (int_eq c (pos 1)) (int_eq c (neg_ℤ (pos 1))) s p (option_map (with_more_of_split m c) (split_off_symbol ms p)))
          (and_first (is_held ms (s, term.Scalar)) true g) ∙ rest

-- ---- worth

abbrev signed_z : Bool → ℤ → ℤ
signed_z true z = z
signed_z false z = neg_ℤ z

module _ (f : Monomial → ℤ) (ig : IgnoresOrder f) (ms v : List (Pos × Nf)) where
  -- with the number of the symbol that is split off, a value is worth what its rest is, and that number
  abbrev Claim : Polynomial → Split → Type 0
  Claim p x = (z y u r : Polynomial) → terms_substituted v p z ≡ Done u → terms_substituted v x.rest y ≡ Done r
      → worth_of f u +ℤ worth_of f y ≡ worth_of f r +ℤ worth_of f z +ℤ signed_z x.positive (worth_of f (number_at v x.symbol))

  more : (m : Monomial) (c : ℤ) (p : Polynomial) (x : Split) → Claim p x → Claim (Plus m c p) (with_more_of_split m c x)
  more m c p x h z y u r e g =
      let term = after (number c) (λ n. atoms_substituted v m n) in
      let a = goes_done term (λ q. after (normal_sum z q) (λ t. terms_substituted v p t)) u e in
      let b = goes_done (normal_sum z a.middle) (λ t. terms_substituted v p t) u a.next in
      let i = goes_done term (λ q. after (normal_sum y q) (λ t. terms_substituted v x.rest t)) r g in
      let same : i.middle ≡ a.middle = same_Done i.middle a.middle (sym i.first ∙ a.first) in
      let j = goes_done (normal_sum y i.middle) (λ t. terms_substituted v x.rest t) r i.next in
      omega (
        arith,
        ints,
        h b.middle j.middle u r b.next j.next,
        sum_worth f ig z a.middle b.middle b.first,
        sum_worth f ig y i.middle j.middle j.first,
        ap (worth_of f) same,
      )

  here : (positive : Bool) (m : Monomial) (c d : ℤ) (p : Polynomial) (s : Pos) → m ≡ Times (Symbol s) One → c ≡ d → ((k : ℤ) → d *ℤ k ≡ signed_z positive k)
      → Claim (Plus m c p) (record { symbol = s; positive = positive; rest = p })
  here positive m c d p s l k w z y u r e g =
      let a = goes_done (after (number c) (λ n. atoms_substituted v m n)) (λ q. after (normal_sum z q) (λ t. terms_substituted v p t)) u e in
      let b = goes_done (normal_sum z a.middle) (λ t. terms_substituted v p t) u a.next in
      let one : after (number d) (λ n. atoms_substituted v (Times (Symbol s) One) n) ≡ Done a.middle =
      sym (ap₂ (λ x q. after (number x) (λ n. atoms_substituted v q n)) k l) ∙ a.first in
      omega (
        arith,
        ints,
        shift f ig v p b.middle y u r b.next g,
        sum_worth f ig z a.middle b.middle b.first,
        unit_worth f ig v s d a.middle one ∙ w (worth_of f (number_at v s)),
      )

  mapped : (m : Monomial) (c : ℤ) (p : Polynomial) (o : Option Split) (x : Split) → ((y : Split) → o ≡ Some y → Claim p y)
      → option_map (with_more_of_split m c) o ≡ Some x → Claim (Plus m c p) x
  mapped m c p None x h e = absurd (cc e)
  mapped m c p (Some y) x h e = let k : with_more_of_split m c y ≡ x = cc e in subst (Claim (Plus m c p)) k (more m c p y (h y refl))

  split_worth : (p : Polynomial) (x : Split) → split_off_symbol ms p ≡ Some x → Claim p x
  split_worth Zero x e = absurd (cc e)
  split_worth (Plus m c p) x e = by_symbol (lone_symbol m) refl (λ g. mapped m c p (split_off_symbol ms p) x (λ y i. split_worth p y i) g) e
    where
      by_tests : (s : Pos) → lone_symbol m ≡ Some s → (option_map (with_more_of_split m c) (split_off_symbol ms p) ≡ Some x → Claim (Plus m c p) x)
          → (b one minus : Bool)
          → int_eq c (pos 1) ≡ one → int_eq c (neg_ℤ (pos 1)) ≡ minus
          → split_by b one minus s p (option_map (with_more_of_split m c) (split_off_symbol ms p)) ≡ Some x → Claim (Plus m c p) x
      by_tests s l next true one minus h g i = next i
      by_tests s l next false true minus h g i =
          let k : record { symbol = s; positive = true; rest = p } ≡ x = cc i in
          subst (Claim (Plus m c p)) k (here true m c (pos 1) p s (lone_is m s l) ((signed_Decides c (pos 1)).0 h) (λ z. omega (arith, ints)))
      by_tests s l next false false true h g i =
          let k : record { symbol = s; positive = false; rest = p } ≡ x = cc i in
          subst (Claim (Plus m c p)) k (here false m c (neg_ℤ (pos 1)) p s (lone_is m s l) ((signed_Decides c (neg_ℤ (pos 1))).0 g) (λ z. omega (arith, ints)))
      by_tests s l next false false false h g i = next i

      by_symbol : (o : Option Pos) → lone_symbol m ≡ o → (option_map (with_more_of_split m c) (split_off_symbol ms p) ≡ Some x → Claim (Plus m c p) x)
          → split_at ms c o p (option_map (with_more_of_split m c) (split_off_symbol ms p)) ≡ Some x → Claim (Plus m c p) x
      by_symbol None l next g = next g
      by_symbol (Some s) l next g = by_tests s l next (is_held ms (s, term.Scalar)) (int_eq c (pos 1)) (int_eq c (neg_ℤ (pos 1))) refl refl g

less_worth : (f : Monomial → ℤ) → IgnoresOrder f → (b : Bool) (p : Pos) (r m : Polynomial) → less_rest b p r ≡ Done m
    → worth_of f r +ℤ signed_z b (worth_of f m) ≡ worth_of f (polynomial_of_symbol p)
less_worth f ig true p r m e = omega (arith, ints, difference_worth f ig (polynomial_of_symbol p) r m e)
less_worth f ig false p r m e = omega (arith, ints, difference_worth f ig r (polynomial_of_symbol p) m e)

-- what was solved for a symbol gives back the symbol of its position, whatever is held later
pub solved_back : (ms fs : List (Pos × Nf)) (t : Polynomial) (x : Split) (p : Pos) (r m u : Polynomial) → split_off_symbol ms t ≡ Some x
    → number_held ms x.rest ≡ true
    → polynomial_substituted ms x.rest ≡ Done r → less_rest x.positive p r ≡ Done m → Extends ms fs
    → number_at fs x.symbol ≡ m → polynomial_substituted fs t ≡ Done u → u ≡ polynomial_of_symbol p
solved_back ms fs t x p r m u s h e l ext n g =
    let rest : polynomial_substituted fs x.rest ≡ Done r = sym (terms_again ms fs (is_held ms) ext.kept x.rest h Zero) ∙ e in
    settled_by_worth u (polynomial_of_symbol p) (substituted_rises fs t u g) refl (λ f ig. worth f ig rest)
  where
    worth : (f : Monomial → ℤ) → IgnoresOrder f → polynomial_substituted fs x.rest ≡ Done r → worth_of f u ≡ worth_of f (polynomial_of_symbol p)
    worth f ig rest =
        let k : signed_z x.positive (worth_of f (number_at fs x.symbol)) ≡ signed_z x.positive (worth_of f m) =
        ap (λ z. signed_z x.positive (worth_of f z)) n in
        omega (arith, ints, split_worth f ig ms fs t x s Zero Zero u r g rest, less_worth f ig x.positive p r m l, k)
