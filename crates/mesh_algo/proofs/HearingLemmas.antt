-- A hearing and the life that it goes on with: whether it is the first of its number, what it makes
-- of the life's row, and what is answered.
use Rattle.std.proofs.Common.{◌≡◌, ⊎_elim, ℕ, ◌+◌, ◌-◌, ◌<◌, max, nat_lt, Bool, true, false, cond, not, ◌&&◌, ◌||◌, List, [], ◌∷◌, find, is_none, option_map, Option, Some, None, arith, refl, sym, ap, ap₂, ◌∙◌}
use Rattle.std.proofs.lemmas.Bool.{and_parts, cases_Bool, le-ltb, lt-ltb, not-false, not-true, true≢false}
use Rattle.mesh_model.specs.declared.route.Meeting.{Meeting}
use Rattle.mesh_model.specs.Routes.Life.{HeardOgm, began_wild, since, life, is_live, meeting, newest, numbers_from, is_first, is_accepted, forwarded}
use Rattle.mesh_model.specs.Routes.Numbers.{has, greatest, window}
use Rattle.mesh_laws.proofs.WindowLemmas.{has-le, has-window, window-cons}
use Rattle.mesh_algo.specs.declared.life.Life.{Life}
use Rattle.mesh_algo.specs.LifeRows.{first_hearing, life_row, life_with, newest_by, forwarded_by, restarted_by, touched}
use Rattle.mesh_algo.proofs.LifeLemmas.{and_false, numbers-le, forwarded-le, late_newest, next_newest, late_forwarded, next_forwarded}
use Rattle.mesh_algo.proofs.LifeRows.{forwarded_by_row, newest_by_row, no_life, restarted_by_row}
use Rattle.mesh_algo.proofs.Meetings.{late_is_none, meets_near, meets_nothing}

-- how the number of a hearing meets the life that its originator then has
abbrev pub met : HeardOgm → List HeardOgm → Meeting
met h hearings = meeting h.moment h.seq (life h.moment hearings)

-- it is late and a restart as that says
pub record IsMet (h : HeardOgm) (hearings : List HeardOgm) : Type 0 where
  pub late : h.late ≡ (met h hearings).late
  pub restart : h.restart ≡ (met h hearings).restart

-- the restart with which a life began is the hearing itself or one before it
began_step : (h : HeardOgm) (alive : List HeardOgm) → began_wild (h ∷ alive) ≡ cond h.restart (Some h.moment) (began_wild alive)
began_step h alive = elim h.restart as (λ b. option_map (λ (g : HeardOgm). g.moment) (cond b (Some h) (find (λ (g : HeardOgm). g.restart) alive)) ≡ cond b (Some h.moment) (began_wild alive)) [ true ↦ refl | false ↦ refl ]

-- ---- the hearings of an originator before it
module _ (h : HeardOgm) (hearings : List HeardOgm) (is_met : IsMet h hearings) where
  abbrev alive : List HeardOgm
  alive = since h hearings

  -- the row of the life that it goes on with
  pub goes_on_with : (row kept : Option Life) (m : Meeting) → row ≡ life_row (life h.moment hearings) → m ≡ met h hearings → kept ≡ cond m.restart None row → kept ≡ life_row alive
  goes_on_with row kept m row_is m_is e =
      e ∙ ap (λ x. cond x.restart None row) m_is ∙ ap (λ b. cond b None row) (sym is_met.restart)
      ∙ elim h.restart as (λ b. cond b None row ≡ life_row (cond b [] (life h.moment hearings))) [
        | true ↦ refl
        | false ↦ row_is
      ]

  -- when the life with it began with a restart
  pub restarted_is : (kept : Option Life) (m : Meeting) (restarted : Option ℕ) → kept ≡ life_row alive → m ≡ met h hearings → restarted ≡ cond m.restart (Some h.moment) (restarted_by kept) → restarted ≡ began_wild (h ∷ alive)
  restarted_is kept m restarted kept_is m_is e =
      e ∙ ap (λ x. cond x.restart (Some h.moment) (restarted_by kept)) m_is ∙ ap (λ b. cond b (Some h.moment) (restarted_by kept)) (sym is_met.restart)
      ∙ ap (λ r. cond h.restart (Some h.moment) r) (restarted_by_row alive kept kept_is) ∙ sym (began_step h alive)

  -- a number on time is less than 64 below the newest
  pub near : h.late ≡ false → newest alive < h.seq + 64
  near timely =
      elim h.restart as (λ b. h.restart ≡ b → newest (cond b [] (life h.moment hearings)) < h.seq + 64) [
        | true ↦ λ t. omega arith
        | false ↦ λ f. meets_near h.moment h.seq (life h.moment hearings) (sym is_met.late ∙ timely) (sym is_met.restart ∙ f)
      ] refl

  -- ---- whether it is the first
  pub first_from : h.late ≡ false → has h.seq (window (numbers_from h.from alive)) ≡ false → is_first h alive ≡ true
  first_from timely unseen =
      let le = numbers-le h.from alive in let low = near timely in
      let same : has h.seq (window (numbers_from h.from alive)) ≡ has h.seq (numbers_from h.from alive)
      = has-window h.seq (numbers_from h.from alive) ∙ ap (λ b. b && has h.seq (numbers_from h.from alive)) (lt-ltb (greatest (numbers_from h.from alive) - h.seq) 64 (omega (arith, le, low))) in
      ap₂ (λ a b. not a && not b) timely (sym same ∙ unseen)

  -- one that begins a life is on time
  timely_alone : alive ≡ [] → h.late ≡ false
  timely_alone none =
      elim h.restart as (λ b. h.restart ≡ b → cond b [] (life h.moment hearings) ≡ [] → h.late ≡ false) [
        | true ↦ λ t e. ⊎_elim (λ late. absurd (true≢false (sym t ∙ is_met.restart ∙ late_is_none h.moment h.seq (life h.moment hearings) (sym is_met.late ∙ late)))) (λ timely. timely) (cases_Bool h.late)
        | false ↦ λ f e. is_met.late ∙ ap (λ l. (meeting h.moment h.seq l).late) e ∙ (meets_nothing h.moment h.seq).0
      ] refl none

  -- it is the first
  first_alone : alive ≡ [] → is_first h alive ≡ true
  first_alone none = ap₂ (λ a l. not a && not (has h.seq (numbers_from h.from l))) (timely_alone none) none

  -- one that is no first goes on with a life
  pub touches_life : life_row alive ≡ None → is_first h alive ≡ false → ⊥
  touches_life e first = true≢false (sym (first_alone (no_life alive e)) ∙ first)

  -- whether a number was sent on is seen in the window
  pub has_sent : h.late ≡ false → has h.seq (window (forwarded alive)) ≡ has h.seq (forwarded alive)
  has_sent timely =
      let le = forwarded-le alive in let low = near timely in
      has-window h.seq (forwarded alive) ∙ ap (λ b. b && has h.seq (forwarded alive)) (lt-ltb (greatest (forwarded alive) - h.seq) 64 (omega (arith, le, low)))

-- ---- a life before it
module _ (h : HeardOgm) (alive : List HeardOgm) where
  pub late_not_first : h.late ≡ true → is_first h alive ≡ false
  late_not_first e = ap (λ b. not b && not (has h.seq (numbers_from h.from alive))) e

  pub seen_not_first : has h.seq (window (numbers_from h.from alive)) ≡ true → is_first h alive ≡ false
  seen_not_first e =
      let seen = (and_parts (nat_lt (greatest (numbers_from h.from alive) - h.seq) 64) (has h.seq (numbers_from h.from alive)) (sym (has-window h.seq (numbers_from h.from alive)) ∙ e)).1 in
      ap (λ b. not h.late && not b) seen ∙ and_false (not h.late)

  pub timely_from : is_first h alive ≡ true → h.late ≡ false
  timely_from first = not-true h.late (and_parts (not h.late) _ first).0

  pub top_is : (row : Option Life) (top : ℕ) → row ≡ life_row alive → top ≡ max (newest_by row) h.seq → top ≡ max h.seq (newest alive)
  top_is row top e at = let n = newest_by_row alive row e in omega (arith, n, at)

  -- ---- one that is late or repeated
  within : has h.seq (numbers_from h.from alive) ≡ true → max h.seq (newest alive) ≡ newest alive
  within seen = let le = has-le h.seq (numbers_from h.from alive) seen in let top = numbers-le h.from alive in omega (arith, le, top)

  repeated : is_first h alive ≡ false → h.late ≡ false → has h.seq (numbers_from h.from alive) ≡ true
  repeated first timely = not-false _ (sym (ap (λ b. not b && not (has h.seq (numbers_from h.from alive))) timely) ∙ first)

  touched_newest : is_first h alive ≡ false → newest (h ∷ alive) ≡ newest alive
  touched_newest first = ⊎_elim (λ late. late_newest h.from h alive late) (λ timely. next_newest h.from h alive timely ∙ within (repeated first timely)) (cases_Bool h.late)

  touched_forwarded : is_first h alive ≡ false → h.sent_on ≡ false → forwarded (h ∷ alive) ≡ forwarded alive
  touched_forwarded first kept =
      ⊎_elim (λ late. late_forwarded h.from h alive late)
      (λ timely. next_forwarded h.from h alive timely ∙ ap (λ b. cond b (h.seq ∷ forwarded alive) (forwarded alive)) kept) (cases_Bool h.late)

  row_parts : (l : List HeardOgm) (row : Life) → life_row l ≡ Some row → Some (touched h.moment row) ≡ Some (record { last = h.moment; newest = newest l; forwarded = window (forwarded l); restarted = began_wild l })
  row_parts [] row e = cc
  row_parts (g ∷ older) row e = sym (ap touch e)
    where
      touch : Option Life → Option Life
      touch None = None
      touch (Some r) = Some (record { last = h.moment; newest = r.newest; forwarded = r.forwarded; restarted = r.restarted })

  pub touched_life : (row : Life) → life_row alive ≡ Some row → is_first h alive ≡ false → h.sent_on ≡ false → h.restart ≡ false → Some (touched h.moment row) ≡ life_row (h ∷ alive)
  touched_life row e first kept same =
      row_parts alive row e ∙ ap₂ (λ n f. Some (record { last = h.moment; newest = n; forwarded = window f; restarted = began_wild alive })) (sym (touched_newest first)) (sym (touched_forwarded first kept))
      ∙ ap (λ r. Some (record { last = h.moment; newest = newest (h ∷ alive); forwarded = window (forwarded (h ∷ alive)); restarted = r })) (sym (began_step h alive ∙ ap (λ b. cond b (Some h.moment) (began_wild alive)) same))

  accepted_not : (l : List HeardOgm) (row : Life) → life_row l ≡ Some row → (h.late ≡ false → max h.seq (newest l) ≡ newest l) → is_accepted h l ≡ false
  accepted_not [] row e up = cc
  accepted_not (g ∷ older) row e up =
      ⊎_elim (λ late. ap (λ b. not b && nat_lt (newest (g ∷ older)) h.seq) late)
      (λ timely. let top = up timely in ap (λ b. not h.late && b) (le-ltb (newest (g ∷ older)) h.seq (omega (arith, top))) ∙ and_false (not h.late))
      (cases_Bool h.late)

  -- it isn't accepted
  pub not_accepted : (row : Life) → life_row alive ≡ Some row → is_first h alive ≡ false → is_accepted h alive ≡ false
  not_accepted row e first = accepted_not alive row e (λ timely. within (repeated first timely))

  pub lives_on : (l : List HeardOgm) (row : Life) → life_row l ≡ Some row → is_live l ≡ true
  lives_on [] row e = cc
  lives_on (g ∷ older) row e = refl

  -- ---- one on time
  forwarded_step : (row : Option Life) (b : Bool) → row ≡ life_row alive → (cond b (window (h.seq ∷ forwarded_by row)) (forwarded_by row)) ≡ window (cond b (h.seq ∷ forwarded alive) (forwarded alive))
  forwarded_step row true e = ap (λ l. window (h.seq ∷ l)) (forwarded_by_row alive row e) ∙ window-cons h.seq (forwarded alive)
  forwarded_step row false e = forwarded_by_row alive row e

  -- the row of the life with it
  pub next_life : (row : Option Life) (restarted : Option ℕ) (sent : Bool) → row ≡ life_row alive → restarted ≡ began_wild (h ∷ alive) → h.late ≡ false → sent ≡ h.sent_on → Some (life_with h.moment h.seq restarted row sent) ≡ life_row (h ∷ alive)
  next_life row restarted sent e began timely sent_is =
      let n = newest_by_row alive row e in let t = next_newest h.from h alive timely in
      let top : max (newest_by row) h.seq ≡ newest (h ∷ alive) = omega (arith, n, t) in
      ap (λ r. Some (life_with h.moment h.seq r row sent)) began
      ∙ ap₂ (λ m f. Some (record { last = h.moment; newest = m; forwarded = f; restarted = began_wild (h ∷ alive) })) top
      (ap (λ b. cond b (window (h.seq ∷ forwarded_by row)) (forwarded_by row)) sent_is ∙ forwarded_step row h.sent_on e
      ∙ ap (λ l. window l) (sym (next_forwarded h.from h alive timely)))

  pub accepted_is : (l : List HeardOgm) (r : Option Life) → r ≡ life_row l → (a : Bool) → a ≡ (is_none r || nat_lt (newest_by r) h.seq) → h.late ≡ false → a ≡ is_accepted h l
  accepted_is [] r e a is_a timely = is_a ∙ ap (λ x. is_none x || nat_lt (newest_by x) h.seq) e
  accepted_is (g ∷ older) r e a is_a timely = is_a ∙ ap (λ x. is_none x || nat_lt (newest_by x) h.seq) e ∙ sym (ap (λ b. not b && nat_lt (newest (g ∷ older)) h.seq) timely)

  pub begun_is : (l : List HeardOgm) (r : Option Life) → r ≡ life_row l → is_none r ≡ not (is_live l)
  begun_is [] r e = ap (λ x. is_none x) e
  begun_is (g ∷ older) r e = ap (λ x. is_none x) e

  -- what is answered
  pub answered : (row : Option Life) → row ≡ life_row alive → h.late ≡ false → (forward : Option _) → first_hearing h.seq row forward ≡ record { accepted = is_accepted h alive; began = not (is_live alive); forward = forward }
  answered row e timely forward = ap₂ (λ a b. record { accepted = a; began = b; forward = forward }) (accepted_is alive row e _ refl timely) (begun_is alive row e)
