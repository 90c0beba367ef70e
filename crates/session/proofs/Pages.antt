-- Texts that are spelled on a page.
use Rattle.std.proofs.Common.{◌≡◌, ◌++◌, List, ℕ, [], Bool, true, false, Option, Ok, Err, refl, sym, ap, subst, ◌∙◌, append_assoc, append-nil, true≢false}
use Rattle.std.specs.Io.KnownBytes.{Appends}
use Rattle.session.specs.Output.{AppendsFront}
use Rattle.session.specs.Page.{Page, IsSpelled, Spells, Ends}
use Rattle.session.proofs.Writes.{appends-nothing, appends-both, front-behind, front-longer}

module _ {O : Type 0} (contents : O → Option (List ℕ)) (has_failed : O → Bool) where
  -- In a loop: a front of the whole was spelled, and this is left.
  pub record SpellsFront (a : O) (p : Page) (b : O) (q : Page) (left whole : List ℕ) : Type 0 where
    pub front : List ℕ
    pub spells : Spells contents has_failed a p b q front
    pub is : front ++ left ≡ whole

module _ {O : Type 0} {contents : O → Option (List ℕ)} {has_failed : O → Bool} where
  -- nothing was spelled on an empty page
  pub begun : (out : O) (page : Page) → page ≡ record { waiting = []; failed = false } → IsSpelled contents has_failed (contents out) [] out page
  begun out page is = record {
    whole = λ works. ([], sym (ap (λ (p : Page). p.waiting) is), appends-nothing (contents out));
    front = λ failed. absurd (true≢false (sym failed ∙ ap (λ (p : Page). p.failed) is));
    cause = λ failed. absurd (true≢false (sym failed ∙ ap (λ (p : Page). p.failed) is));
  }

  -- the same text by another name
  pub same_text : (base : Option (List ℕ)) (t u : List ℕ) (out : O) (page : Page) → t ≡ u → IsSpelled contents has_failed base t out page
      → IsSpelled contents has_failed base u out page
  same_text base t u out page is spelled = subst (λ (l : List ℕ). IsSpelled contents has_failed base l out page) is spelled

  pub spells-as : {a b : O} {p q : Page} {m n : List ℕ} → m ≡ n → Spells contents has_failed a p b q m → Spells contents has_failed a p b q n
  spells-as {a} {b} {p} {q} is spells = subst (λ (l : List ℕ). Spells contents has_failed a p b q l) is spells

  -- nothing more
  pub spells-nothing : (out : O) (page : Page) → Spells contents has_failed out page out page []
  spells-nothing out page = record {
    behind = λ base text spelled. same_text base text (text ++ []) out page (sym (append-nil text)) spelled;
  }

  -- one text behind another
  pub spells-both : {a b c : O} {p q r : Page} {m n : List ℕ} → Spells contents has_failed a p b q m → Spells contents has_failed b q c r n
      → Spells contents has_failed a p c r (m ++ n)
  spells-both {a} {b} {c} {p} {q} {r} {m} {n} first second = record {
    behind = λ base text spelled. same_text base ((text ++ m) ++ n) (text ++ (m ++ n)) c r (append_assoc text m n)
        (second.behind base (text ++ m) (first.behind base text spelled));
  }

  -- where a write failed nothing more is written
  pub spells-failed : (out : O) (page : Page) (more : List ℕ) → page.failed ≡ true → Spells contents has_failed out page out page more
  spells-failed out page more failed = record {
    behind = λ base text spelled. record {
      whole = λ works. absurd (true≢false (sym failed ∙ works));
      front = λ _. front-longer base (contents out) text more (spelled.front failed);
      cause = spelled.cause;
    };
  }

  -- the page takes bytes
  taken : (out : O) (p : Page) (front : List ℕ) → Spells contents has_failed out p out (record p { waiting = p.waiting ++ front }) front
  taken out p front = record {
    behind = λ base text spelled. record {
      whole = λ works.
          let w = spelled.whole works in (
            w.0,
            ap (λ (l : List ℕ). l ++ front) w.1 ∙ append_assoc w.0 p.waiting front,
            w.2,
          );
      front = λ failed. front-longer base (contents out) text front (spelled.front failed);
      cause = spelled.cause;
    };
  }

  pub spells-taken : (out : O) (p q : Page) (front : List ℕ) → q ≡ record p { waiting = p.waiting ++ front } → Spells contents has_failed out p out q front
  spells-taken out p q front is = subst (λ (page : Page). Spells contents has_failed out p out page front) (sym is) (taken out p front)

  -- what waits is written
  written : (a b : O) (p : Page) → p.failed ≡ false → Appends (contents a) (contents b) p.waiting
      → Spells contents has_failed a p b (record { waiting = []; failed = false }) []
  written a b p works appends = record {
    behind = λ base text spelled.
        let w = spelled.whole works in
        record {
          whole = λ _. (
            text,
            refl,
            subst (Appends base (contents b)) (sym w.1) (appends-both base (contents a) (contents b) w.0 p.waiting w.2 appends),
          );
          front = λ failed. absurd (true≢false (sym failed));
          cause = λ failed. absurd (true≢false (sym failed));
        };
  }

  pub spells-written : (a b : O) (p q : Page) → p.failed ≡ false → q ≡ record { waiting = []; failed = false } → Appends (contents a) (contents b) p.waiting
      → Spells contents has_failed a p b q []
  spells-written a b p q works is appends = subst (λ (page : Page). Spells contents has_failed a p b page []) (sym is) (written a b p works appends)

  -- or the write fails
  broken : (a b : O) (p : Page) → p.failed ≡ false → AppendsFront (contents a) (contents b) p.waiting → has_failed b ≡ true
      → Spells contents has_failed a p b (record { waiting = []; failed = true }) []
  broken a b p works appends cause = record {
    behind = λ base text spelled.
        let w = spelled.whole works in
        record {
          whole = λ works. absurd (true≢false works);
          front = λ _. front-longer base (contents b) text []
              (subst (AppendsFront base (contents b)) (sym w.1) (front-behind base (contents a) (contents b) w.0 p.waiting w.2 appends));
          cause = λ _. cause;
        };
  }

  pub spells-broken : (a b : O) (p q : Page) → p.failed ≡ false → q ≡ record { waiting = []; failed = true }
      → AppendsFront (contents a) (contents b) p.waiting → has_failed b ≡ true → Spells contents has_failed a p b q []
  spells-broken a b p q works is appends cause = subst (λ (page : Page). Spells contents has_failed a p b page []) (sym is) (broken a b p works appends cause)

  -- or one failed before
  closed : (out : O) (p : Page) → p.failed ≡ true → Spells contents has_failed out p out (record { waiting = []; failed = true }) []
  closed out p failed = record {
    behind = λ base text spelled. record {
      whole = λ works. absurd (true≢false works);
      front = λ _. front-longer base (contents out) text [] (spelled.front failed);
      cause = λ _. spelled.cause failed;
    };
  }

  pub spells-closed : (out : O) (p q : Page) → p.failed ≡ true → q ≡ record { waiting = []; failed = true } → Spells contents has_failed out p out q []
  spells-closed out p q failed is = subst (λ (page : Page). Spells contents has_failed out p out page []) (sym is) (closed out p failed)

  -- nothing waits, and no write failed: all is written
  pub ends-written : {E : Type 0} (a b : O) (p q : Page) → q.waiting ≡ [] → q.failed ≡ false → Spells contents has_failed a p b q []
      → Ends contents has_failed {E = E} a p b (Ok tt)
  ends-written a b p q empty works spells = record {
    written = λ base text spelled.
        let w = (spells.behind base text spelled).whole works in
        subst (Appends base (contents b)) (sym (append-nil w.0) ∙ ap (λ (l : List ℕ). w.0 ++ l) (sym empty) ∙ sym w.1 ∙ append-nil text) w.2;
    front = λ base text spelled. tt;
    cause = λ base text spelled. tt;
  }

  -- or one failed
  pub ends-failed : {E : Type 0} (e : E) (a b : O) (p q : Page) → q.failed ≡ true → Spells contents has_failed a p b q []
      → Ends contents has_failed a p b (Err e)
  ends-failed e a b p q failed spells = record {
    written = λ base text spelled. tt;
    front = λ base text spelled. subst (AppendsFront base (contents b)) (append-nil text) ((spells.behind base text spelled).front failed);
    cause = λ base text spelled. (spells.behind base text spelled).cause failed;
  }

  pub front-none : (out : O) (page : Page) (whole : List ℕ) → SpellsFront contents has_failed out page out page whole whole
  front-none out page whole = record { front = []; spells = spells-nothing out page; is = refl }

  -- what is left, by another name
  pub front-left : {a b : O} {p q : Page} {left left' whole : List ℕ} → left ≡ left' → SpellsFront contents has_failed a p b q left whole
      → SpellsFront contents has_failed a p b q left' whole
  front-left is so_far = record { front = so_far.front; spells = so_far.spells; is = ap (λ (l : List ℕ). so_far.front ++ l) (sym is) ∙ so_far.is }

  pub front-more : {a b c : O} {p q r : Page} {m left left' whole : List ℕ} → left ≡ m ++ left' → SpellsFront contents has_failed a p b q left whole
      → Spells contents has_failed b q c r m → SpellsFront contents has_failed a p c r left' whole
  front-more {m = m} {left' = left'} parts so_far more = record {
    front = so_far.front ++ m;
    spells = spells-both so_far.spells more;
    is = append_assoc so_far.front m left' ∙ ap (λ (l : List ℕ). so_far.front ++ l) (sym parts) ∙ so_far.is;
  }

  pub front-last : {a b c : O} {p q r : Page} {left whole : List ℕ} → SpellsFront contents has_failed a p b q left whole → Spells contents has_failed b q c r left
      → Spells contents has_failed a p c r whole
  front-last so_far more = spells-as so_far.is (spells-both so_far.spells more)

  -- nothing is left
  pub front-end : {a b : O} {p q : Page} {left whole : List ℕ} → left ≡ [] → SpellsFront contents has_failed a p b q left whole → Spells contents has_failed a p b q whole
  front-end {left = left} none so_far =
      spells-as (sym (append-nil so_far.front) ∙ ap (λ (l : List ℕ). so_far.front ++ l) (sym none) ∙ so_far.is) so_far.spells

  -- the last of it is spelled, by another name
  pub front-ends : {a b c : O} {p q r : Page} {m left whole : List ℕ} → left ≡ m → SpellsFront contents has_failed a p b q left whole
      → Spells contents has_failed b q c r m → Spells contents has_failed a p c r whole
  front-ends is so_far more = front-last so_far (spells-as (sym is) more)
