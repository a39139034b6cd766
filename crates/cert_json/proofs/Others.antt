-- What is noted of the names whose values are no texts.
use Rattle.std.proofs.Common.{◌≡◌, ℕ, List, [], ◌∷◌, ◌||◌, length, Bool, true, false, bytes_eq, nat_cmp, is_eq, Bor}
use Rattle.std.proofs.Common.{Ordering, Less, Equal, Greater, refl, sym, ap, ◌∙◌, subst, arith}
use Rattle.std.specs.Prelude.{is_some, not}
use Rattle.std.specs.BTreeMap.{is_at}
use Rattle.std.specs.BTreeSet.{insert_key}
use Rattle.std.specs.Cmp.Lexicographic.{slice_cmp}
use Rattle.std.specs.Ordering.{match_ordering}
use Rattle.std.specs.Set.{remove_key}
use Rattle.std.proofs.lemmas.Bool.{false≢true, or_right}
use Rattle.std.proofs.lemmas.Cmp.{nat_list_cmp_total, tied_itself}
use Rattle.std.proofs.lemmas.Map.Lookups.{exact_bytes}
use Rattle.std.proofs.lemmas.Map.Text.{is_eq-slice_cmp}
use Rattle.std.proofs.lemmas.Slice.Eq.{bytes_eq-Decides}
use Rattle.serde_json.specs.Data.{Data, null, object, Members, put}
use Rattle.serde_json.specs.Find.{get_member, as_str}
use Rattle.serde_json.proofs.Views.{get_member-put, get_member-put_other}
use Rattle.cert_values.specs.Shape.{name_texts}
use Rattle.cert_json.specs.Trim.{first_names, short_equations}
use Rattle.cert_json.specs.Objects.{AreAscending, TellsOthers, is_no_text, is_noted}
use Rattle.cert_json.proofs.FirstNames.{texts_no_other, texts_from}
use Rattle.cert_values.proofs.Views.{name_cmp}

abbrev Name : Type 0
Name = Bor (List ℕ)

-- one name, and every other one
each_name : (q k : List ℕ) (P : List ℕ → Type 0) (b : Bool) → bytes_eq q k ≡ b → P k → ((q ≡ k → ⊥) → P q) → P q
each_name q k P true is here there = subst P (sym ((bytes_eq-Decides q k).0 is)) here
each_name q k P false is here there = there (λ at. false≢true (sym is ∙ (bytes_eq-Decides q k).1 at))

of_name : (q k : List ℕ) (P : List ℕ → Type 0) → P k → ((q ≡ k → ⊥) → P q) → P q
of_name q k P here there = each_name q k P (bytes_eq q k) refl here there

put_here : (k : List ℕ) (d : Data) (ms : Members) → is_no_text (get_member k (put k d ms)) ≡ not (is_some (as_str d))
put_here k d ms = ap is_no_text (get_member-put k d ms)

put_there : (q k : List ℕ) (d : Data) (ms : Members) → (q ≡ k → ⊥) → is_no_text (get_member q (put k d ms)) ≡ is_no_text (get_member q ms)
put_there q k d ms other = ap is_no_text (get_member-put_other q k d ms other)

-- ---- names that are noted

differ : (q k : List ℕ) (b : Bool) → bytes_eq q k ≡ b → (q ≡ k → ⊥) → b ≡ false
differ q k true e other = absurd (other ((bytes_eq-Decides q k).0 e))
differ q k false e other = refl

no_tie : (q k : List ℕ) → (q ≡ k → ⊥) → is_eq (slice_cmp nat_cmp q k) ≡ false
no_tie q k other = is_eq-slice_cmp q k ∙ differ q k _ refl other

noted_here : (k : Name) (ks : List Name) → is_noted k.now (k ∷ ks) ≡ true
noted_here k ks = rw (tied_itself nat_list_cmp_total k.now) refl

added_here_at : (k l : Name) (ls : List Name) (o : Ordering) → slice_cmp nat_cmp k.now l.now ≡ o → is_noted k.now (insert_key name_cmp ls k) ≡ true
    → is_noted k.now (match_ordering o (k ∷ l ∷ ls) (l ∷ ls) (l ∷ insert_key name_cmp ls k)) ≡ true
added_here_at k l ls Less is more = noted_here k (l ∷ ls)
added_here_at k l ls Equal is more = rw is refl
added_here_at k l ls Greater is more = or_right (is_eq (slice_cmp nat_cmp k.now l.now)) _ more

added_here : (k : Name) (ks : List Name) → is_noted k.now (insert_key name_cmp ks k) ≡ true
added_here k [] = noted_here k []
added_here k (l ∷ ls) = added_here_at k l ls (slice_cmp nat_cmp k.now l.now) refl (added_here k ls)

module _ (q : List ℕ) (k : Name) (other : q ≡ k.now → ⊥) where
  added_there_at : (l : Name) (ls : List Name) (o : Ordering) → is_noted q (insert_key name_cmp ls k) ≡ is_noted q ls
      → is_noted q (match_ordering o (k ∷ l ∷ ls) (l ∷ ls) (l ∷ insert_key name_cmp ls k)) ≡ is_noted q (l ∷ ls)
  added_there_at l ls Less more = rw (no_tie q k.now other) refl
  added_there_at l ls Equal more = refl
  added_there_at l ls Greater more = ap (λ b. is_eq (slice_cmp nat_cmp q l.now) || b) more

  added_there : (ks : List Name) → is_noted q (insert_key name_cmp ks k) ≡ is_noted q ks
  added_there [] = rw (no_tie q k.now other) refl
  added_there (l ∷ ls) = added_there_at l ls (slice_cmp nat_cmp k.now l.now) (added_there ls)

module _ (q k : List ℕ) (other : q ≡ k → ⊥) where
  still_at : (l : Name) (ls : List Name) (o : Ordering) → slice_cmp nat_cmp k l.now ≡ o
      → is_noted q (remove_key (is_at (λ j. slice_cmp nat_cmp k j.now)) ls) ≡ is_noted q ls
      → is_noted q (remove_key (is_at (λ j. slice_cmp nat_cmp k j.now)) (l ∷ ls)) ≡ is_noted q (l ∷ ls)
  still_at l ls Less is rest = rw is (ap (λ b. is_eq (slice_cmp nat_cmp q l.now) || b) rest)
  still_at l ls Equal is rest = rw (is, no_tie q l.now (λ at. other (at ∙ sym (exact_bytes k l.now is)))) refl
  still_at l ls Greater is rest = rw is (ap (λ b. is_eq (slice_cmp nat_cmp q l.now) || b) rest)

  still_there : (ks : List Name) → is_noted q (remove_key (is_at (λ j. slice_cmp nat_cmp k j.now)) ks) ≡ is_noted q ks
  still_there [] = refl
  still_there (l ∷ ls) = still_at l ls (slice_cmp nat_cmp k l.now) refl (still_there ls)

-- ---- a value that is no text

module _ (k : Name) (d : Data) (ms : Members) (noted : List Name) (b : Bool) (h : TellsOthers ms noted b) (no_text : is_some (as_str d) ≡ false) where
  -- a name that is left out
  pub left_out : TellsOthers (put k.now d ms) noted true
  left_out = record {
    agree = λ q. of_name q k.now (λ j. is_noted j noted ≡ true → is_no_text (get_member j (put k.now d ms)) ≡ true)
        (λ some. put_here k.now d ms ∙ ap not no_text)
        (λ other some. put_there q k.now d ms other ∙ h.agree q some);
    rest = λ whole q none. absurd (false≢true (sym whole));
  }

  -- a name that is noted from now on
  pub put_in : TellsOthers (put k.now d ms) (insert_key name_cmp noted k) b
  put_in = record {
    agree = λ q. of_name q k.now (λ j. is_noted j (insert_key name_cmp noted k) ≡ true → is_no_text (get_member j (put k.now d ms)) ≡ true)
        (λ some. put_here k.now d ms ∙ ap not no_text)
        (λ other some. put_there q k.now d ms other ∙ h.agree q (sym (added_there q k other noted) ∙ some));
    rest = λ whole q. of_name q k.now
        (λ j. is_noted j (insert_key name_cmp noted k) ≡ false → is_no_text (get_member j (put k.now d ms)) ≡ false)
        (λ none. absurd (false≢true (sym none ∙ added_here k noted)))
        (λ other none. put_there q k.now d ms other ∙ h.rest whole q (sym (added_there q k other noted) ∙ none));
  }

-- ---- a text

-- a name that is noted no longer
pub taken_out : (k : List ℕ) (d : Data) (ms : Members) (b : Bool) (old new : List Name) → TellsOthers ms old b
    → new ≡ remove_key (is_at (λ j. slice_cmp nat_cmp k j.now)) old → is_noted k new ≡ false → is_some (as_str d) ≡ true
    → TellsOthers (put k d ms) new b
taken_out k d ms b old new h is gone text =
    let same : (q : List ℕ) → (q ≡ k → ⊥) → is_noted q new ≡ is_noted q old = λ q other. ap (is_noted q) is ∙ still_there q k other old in
    record {
      agree = λ q. of_name q k (λ j. is_noted j new ≡ true → is_no_text (get_member j (put k d ms)) ≡ true)
          (λ some. absurd (false≢true (sym gone ∙ some)))
          (λ other some. put_there q k d ms other ∙ h.agree q (sym (same q other) ∙ some));
      rest = λ whole q. of_name q k (λ j. is_noted j new ≡ false → is_no_text (get_member j (put k d ms)) ≡ false)
          (λ _. put_here k d ms ∙ ap not text)
          (λ other free. put_there q k d ms other ∙ h.rest whole q (sym (same q other) ∙ free));
    }

-- ---- what is noted at the end

not_all : (q : List ℕ) (ms : Members) (b : Bool) → name_texts ms ≡ b → is_no_text (get_member q ms) ≡ true → name_texts ms ≡ false
not_all q ms false is h = is
not_all q ms true is h = absurd (false≢true (sym (texts_no_other q ms is) ∙ h))

-- a name whose value is no text
pub some_other : (ms : Members) (ks : List Name) (b : Bool) → TellsOthers ms ks b → (length ks ≡ 0 → ⊥) → short_equations ms ≡ null
some_other ms [] b h some = absurd (some refl)
some_other ms (k ∷ ks) b h some = rw (not_all k.now ms (name_texts ms) refl (h.agree k.now (noted_here k ks))) refl

-- no such name, where none was left out
pub none_other : (ms : Members) (ks : List Name) (b : Bool) → AreAscending ms → TellsOthers ms ks b → length ks ≡ 0 → b ≡ false
    → short_equations ms ≡ object (first_names ms)
none_other ms [] b up h none whole = let texts : name_texts ms ≡ true = texts_from ms up (λ q. h.rest whole q refl) in rw texts refl
none_other ms (k ∷ ks) b up h none whole = absurd (omega (arith, none))
