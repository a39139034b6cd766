-- The members of an object of equations, in whatever order they are put.
use Rattle.std.proofs.Common.{◌≡◌, ℕ, zero, suc, List, [], ◌∷◌, Option, Some, None, Ordering, Less, Equal, Greater, refl, sym, ap, subst, ◌∙◌, inl, inr}
use Rattle.std.specs.Prelude.{◌⊎◌, slice_get}
use Rattle.std.specs.List.{AllByRecursion}
use Rattle.std.specs.Ordering.{nat_cmp, match_ordering}
use Rattle.std.specs.Cmp.Lexicographic.{slice_cmp}
use Rattle.std.proofs.lemmas.Map.Lookups.{exact_bytes}
use Rattle.cert_json.specs.JsonTexts.{named_texts_of}
use Rattle.serde_json.specs.Data.{Data, string, Members, no_members, member, put}
use Rattle.fs_model.specs.declared.sides.Pos.{Pos}
use Rattle.nf_terms.specs.declared.form.Nf.{Nf}
use Rattle.sym_facts.specs.Facts.{FactPosition}
use Rattle.term_text.specs.TermTexts.{symbol_text}
use Rattle.cert_writer.specs.WrittenCertificates.{form_written, with_equation_member, equations_written}

-- one of the texts has a name that passes
abbrev pub HasName : (List ℕ → Type 0) → List (List ℕ × List ℕ) → Type 0
HasName Q [] = ⊥
HasName Q (e ∷ es) = Q e.0 ⊎ HasName Q es

-- ---- one member put

module _ (P : List ℕ × List ℕ → Type 0) where
  all_put_at : (o : Ordering) (k s l : List ℕ) (d : Data) (ms : Members) → slice_cmp nat_cmp k l ≡ o → P (k, s)
      → AllByRecursion P (named_texts_of (member l d ms)) → AllByRecursion P (named_texts_of (put k (string s) ms))
      → AllByRecursion P (named_texts_of (match_ordering o (member k (string s) (member l d ms)) (member l (string s) ms) (member l d (put k (string s) ms))))
  all_put_at Less k s l d ms e p h later = (p, h)
  all_put_at Equal k s l d ms e p h later = (subst (λ x. P (x, s)) (exact_bytes k l e) p, h.1)
  all_put_at Greater k s l d ms e p h later = (h.0, later)

  all_put : (k s : List ℕ) (ms : Members) → P (k, s) → AllByRecursion P (named_texts_of ms) → AllByRecursion P (named_texts_of (put k (string s) ms))
  all_put k s no_members p h = (p, tt)
  all_put k s (member l d ms) p h = all_put_at (slice_cmp nat_cmp k l) k s l d ms refl p h (all_put k s ms p h.1)

  all_with : (name : Pos → List ℕ) (p : Pos) (o : Option Nf) (ms : Members) → ((f : Nf) → o ≡ Some f → P (symbol_text p.side (name p), form_written name f))
      → AllByRecursion P (named_texts_of ms)
      → AllByRecursion P (named_texts_of (with_equation_member name p o ms))
  all_with name p None ms each h = h
  all_with name p (Some f) ms each h = all_put (symbol_text p.side (name p)) (form_written name f) ms (each f refl) h

  -- what holds of the text of each equation holds of all members
  pub all_written : (name : Pos → List ℕ) (ms : Members) (qs : List FactPosition)
      → ((k : ℕ) (q : FactPosition) (f : Nf) → slice_get qs k ≡ Some q → q.equation ≡ Some f → P (symbol_text q.pos.side (name q.pos), form_written name f))
      → AllByRecursion P (named_texts_of ms) → AllByRecursion P (named_texts_of (equations_written name ms qs))
  all_written name ms [] each h = h
  all_written name ms (q ∷ qs) each h =
      all_written name (with_equation_member name q.pos q.equation ms) qs (λ k r f e g. each (suc k) r f e g)
      (all_with name q.pos q.equation ms (λ f e. each zero q f refl e) h)

module _ (Q : List ℕ → Type 0) where
  new_put_at : (o : Ordering) (k s l : List ℕ) (d : Data) (ms : Members) → slice_cmp nat_cmp k l ≡ o → Q k → HasName Q (named_texts_of (put k (string s) ms))
      → HasName Q (named_texts_of (match_ordering o (member k (string s) (member l d ms)) (member l (string s) ms) (member l d (put k (string s) ms))))
  new_put_at Less k s l d ms e q later = inl q
  new_put_at Equal k s l d ms e q later = inl (subst Q (exact_bytes k l e) q)
  new_put_at Greater k s l d ms e q later = inr later

  new_put : (k s : List ℕ) (ms : Members) → Q k → HasName Q (named_texts_of (put k (string s) ms))
  new_put k s no_members q = inl q
  new_put k s (member l d ms) q = new_put_at (slice_cmp nat_cmp k l) k s l d ms refl q (new_put k s ms q)

  old_put_at : (o : Ordering) (k s l : List ℕ) (d : Data) (ms : Members) → HasName Q (named_texts_of (member l d ms))
      → (HasName Q (named_texts_of ms) → HasName Q (named_texts_of (put k (string s) ms)))
      → HasName Q (named_texts_of (match_ordering o (member k (string s) (member l d ms)) (member l (string s) ms) (member l d (put k (string s) ms))))
  old_put_at Less k s l d ms h later = inr h
  old_put_at Equal k s l d ms (inl q) later = inl q
  old_put_at Equal k s l d ms (inr r) later = inr r
  old_put_at Greater k s l d ms (inl q) later = inl q
  old_put_at Greater k s l d ms (inr r) later = inr (later r)

  old_put : (k s : List ℕ) (ms : Members) → HasName Q (named_texts_of ms) → HasName Q (named_texts_of (put k (string s) ms))
  old_put k s no_members h = absurd h
  old_put k s (member l d ms) h = old_put_at (slice_cmp nat_cmp k l) k s l d ms h (old_put k s ms)

  old_with : (name : Pos → List ℕ) (p : Pos) (o : Option Nf) (ms : Members) → HasName Q (named_texts_of ms)
      → HasName Q (named_texts_of (with_equation_member name p o ms))
  old_with name p None ms h = h
  old_with name p (Some f) ms h = old_put (symbol_text p.side (name p)) (form_written name f) ms h

  old_written : (name : Pos → List ℕ) (ms : Members) (qs : List FactPosition) → HasName Q (named_texts_of ms)
      → HasName Q (named_texts_of (equations_written name ms qs))
  old_written name ms [] h = h
  old_written name ms (q ∷ qs) h = old_written name (with_equation_member name q.pos q.equation ms) qs (old_with name q.pos q.equation ms h)

  new_with : (name : Pos → List ℕ) (p : Pos) (o : Option Nf) (f : Nf) (ms : Members) → o ≡ Some f → Q (symbol_text p.side (name p))
      → HasName Q (named_texts_of (with_equation_member name p o ms))
  new_with name p None f ms e q = absurd (cc e)
  new_with name p (Some g) f ms e q = new_put (symbol_text p.side (name p)) (form_written name g) ms q

  -- each equation has its key among the members
  pub new_written : (name : Pos → List ℕ) (ms : Members) (qs : List FactPosition) (k : ℕ) (q : FactPosition) (f : Nf) → slice_get qs k ≡ Some q
      → q.equation ≡ Some f → Q (symbol_text q.pos.side (name q.pos))
      → HasName Q (named_texts_of (equations_written name ms qs))
  new_written name ms [] k q f e g h = absurd (cc e)
  new_written name ms (r ∷ qs) zero q f e g h =
      let s : q ≡ r = sym (let t : r ≡ q = cc e in t) in
      let here : Q (symbol_text r.pos.side (name r.pos)) = subst (λ z. Q (symbol_text z.pos.side (name z.pos))) s h in
      old_written name (with_equation_member name r.pos r.equation ms) qs
      (new_with name r.pos r.equation f ms (sym (ap (λ (z : FactPosition). z.equation) s) ∙ g) here)
  new_written name ms (r ∷ qs) (suc k) q f e g h = new_written name (with_equation_member name r.pos r.equation ms) qs k q f e g h
