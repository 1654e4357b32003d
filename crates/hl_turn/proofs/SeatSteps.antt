-- The five kinds of step of one seat, each of which keeps the rule.
use Rattle.std.proofs.Common.{Some, ◌≡◌, ◌≢◌, ⊎_elim, inl, inr, ℕ, ◌+◌, ◌%◌, ◌^◌, ◌<◌, eq-eqb, ne_eqb, List, [], ◌∷◌, ◌++◌, set, get_or, sum_by, MatchBool, refl, sym, ap, ◌∙◌, subst, arith, le_refl}
use Rattle.std.proofs.Math.Nat.{mod-add-mod}
use Rattle.std.proofs.lemmas.List.{append-nil}
use mathlib.Core.Logic.{dite}
use native.Mathlib.Decide.{ℕ_discrete}
use mathlib.Core.Option.{none, some, some-injective, some-ne-none}
use mathlib.Core.Option as maybe
use lib.ListN.{get_elem?}
use lib.Seq.{set-get_or}
use Rattle.atomic_table.specs.Table.{State, Me, keeps, takes, gives, stepped, Allows}
use Rattle.atomic_table.proofs.Lists.{at_set, set_here, set_else, set_again, one_turn}
use Rattle.hl_turn.specs.declared.view.View.{View}
use Rattle.hl_turn.specs.declared.view.Stage.{Stage}
use Rattle.hl_turn.specs.declared.view.Stage.TheVariants.{Idle, Drawn, Served, Counted}
use Rattle.hl_turn.specs.Entries.{IsOwn, Begins, by_seat}
use Rattle.hl_turn.specs.Jobs.{Has, Distinct, AllMeet, Shifts}
use Rattle.hl_turn.specs.Views.{IsLive, IsBusy, HasObject, weight, moved}
use Rattle.hl_turn.specs.Rule.{IsAtWork, IsAtHome, LockRule}
use Rattle.hl_turn.specs.Kinds.{draws, gives_back, looks, Takes, takes_turn, counts_step}
use Rattle.hl_turn.proofs.Lists.{at_below, at_one, sum_set, sum_below, by_seat-append, own_here, own_else, begins_all}
use Rattle.hl_turn.proofs.KeepsRule.{weight_one, has_busy, turned}

module _ {T E I C : Type 0} (entries : T → List E) (seat_of : E → ℕ) (legal_over : T → T → Type 0) (jobs_out : T → T → List (ℕ × C)) (meets : I → C → Type 0) (opening : T) (limit : ℕ) where
  abbrev V : Type 0
  V = View T E I C

  abbrev St : Type 0
  St = State T V

  abbrev Rule : St → Type 0
  Rule = LockRule entries seat_of legal_over jobs_out meets opening limit

  abbrev load_of : List V → ℕ
  load_of = sum_by (λ (v : V). weight v.stage)

  -- the view's weight is the one number that the waiting count changes by
  reweigh : (s : St) (id : ℕ) (v w : V) → get_elem? s.views id ≡ some v → load_of (set s.views id w) + weight v.stage ≡ load_of s.views + weight w.stage
  reweigh s id v w at = sum_set (λ (u : V). weight u.stage) s.views id v w at

  -- nothing leaves and nothing comes back
  unshifted : (s : St) (r : Rule s) (id : ℕ) (v : V) → get_elem? s.views id ≡ some v → Shifts meets v.holds r.outs v.holds r.outs
  unshifted s r id v at = record {
    met = (r.each id v at).meeting;
    apart = r.distinct id v at;
    once = r.once;
    others = λ n c h _. (c, h, λ x m. m);
    own = λ n x h. inl (x, h);
    all = λ n c h. let g = r.held n c h in dite (ℕ_discrete g.0 id)
        (λ e. inl (g.2, subst (λ (z : V). Has z.holds n g.2) (at_one s.views g.0 g.1 v g.3 (ap (get_elem? s.views) e ∙ at)) g.4))
        (λ ne. inr ((c, h), λ x own. ne (r.single g.0 id g.1 v n g.2 x g.3 at g.4 own)));
  }

  stage_is : (v : V) (P : Stage → Type 0) (st : Stage) → v.stage ≡ st → P st → P v.stage
  stage_is v P st e p = subst P (sym e) p

  -- no two numbers that are drawn are alike as the words hold them
  same_turn : (s : St) (r : Rule s) (id : ℕ) (v : V) → get_elem? s.views id ≡ some v → IsBusy v.stage → r.serving % 2 ^ 64 ≡ v.ticket % 2 ^ 64 → r.serving ≡ v.ticket
  same_turn s r id v at busy e = let f = (r.each id v at).waits busy in let all = sum_below (λ (u : V). weight u.stage) (λ u. weight_one u.stage) s.views in let w = r.waiting in let few = r.few in
      one_turn r.serving v.ticket (2 ^ 64) f.0 (omega (arith, few.0, few.1, f.1)) e

  pub draws_turn : (slots id : ℕ) (me : Me T V) → me.0.stage ≡ Idle → Allows Rule slots id me 0 (λ n. (n + 1) % 2 ^ 64) (λ r n. draws me r n)
  draws_turn slots id me idle s r _ at _ =
      let v : V = me.0 in let t : ℕ = r.ticket in let w : V = moved v v.seen v.mine v.holds v.outs v.steps Drawn t in
      let f = r.each id v at in
      let live : IsLive v.stage = stage_is v IsLive Idle idle tt in
      let heavier = reweigh s id v w at in
      let light : weight v.stage ≡ 0 = ap weight idle in
      let wait = r.waiting in (
        w,
        keeps,
        tt,
        turned entries seat_of legal_over jobs_out meets opening limit s r 0 ((get_or s.words 0 0 + 1) % 2 ^ 64) s.homes id v v.seen v.mine v.holds v.outs v.steps Drawn t r.log r.outs r.serving (t + 1) r.count at live
            (ap (λ ws. set ws 0 ((get_or ws 0 0 + 1) % 2 ^ 64)) r.words ∙ ap (λ n. n ∷ (r.serving % 2 ^ 64) ∷ (r.count % 2 ^ 64) ∷ []) (mod-add-mod t (2 ^ 64) 1))
            (omega (arith, heavier, light, wait))
            (λ k _. refl) (f.owns live) (begins_all r.log) f.begins (le_refl r.count) f.counts
            (λ _. (omega (arith, wait), omega arith)) (λ h. absurd h) (λ e. subst (λ st. IsLive st) e tt) (unshifted s r id v at)
            (λ j u e _ b. let g = (r.each j u e).waits b in (g.0, omega (arith, g.1), λ _ same. omega (arith, g.1, same)))
            (λ j u e _ h. (r.each j u e).holds h)
            (λ k low high. dite (ℕ_discrete k t) (λ e. (id, w, set_here s.views id w (at_below s.views id v at), tt, sym e))
            (λ ne. let d = r.drawn k low (omega (arith, ne, high)) in
            (d.0, d.1, set_else s.views id d.0 w (λ e. subst IsBusy (ap (λ (z : V). z.stage) (at_one s.views d.0 d.1 v d.2 (ap (get_elem? s.views) e ∙ at)) ∙ idle) d.3) ∙ d.2, d.3, d.4)))
            (⊎_elim (λ (h : IsAtHome entries seat_of legal_over jobs_out meets opening r.log r.outs s). inl (
              h.0,
              h.1,
              h.2,
              h.3,
              λ x. ⊎_elim (λ (y : (x.0 ≡ id) × (w ≡ x.1)). subst (λ (z : V). HasObject z.stage) (sym y.1) x.3)
                  (λ (y : (x.0 ≢ id) × (get_elem? s.views x.0 ≡ some x.1)). h.4 (x.0, x.1, y.1, x.3)) (at_set s.views id x.0 w x.1 x.2),
              h.5,
            ))
            (λ (h : IsAtWork s.views). inr (h.0, h.1, set_else s.views id h.0 w (λ e. subst HasObject (ap (λ (z : V). z.stage) (at_one s.views h.0 h.1 v h.2 (ap (get_elem? s.views) e ∙ at)) ∙ idle) h.3) ∙ h.2, h.3)) r.place),
        (refl, sym (ap (λ ws. get_or ws 0 0) r.words)),
      )

  -- a step that changes nothing
  pub unmoved : (s : St) (r : Rule s) (i id : ℕ) (v : V) → get_elem? s.views id ≡ some v → Rule record { words = set s.words i (get_or s.words i 0); homes = s.homes; views = set s.views id v }
  unmoved s r i id v at = subst (λ (ws : List ℕ). Rule record { words = ws; homes = s.homes; views = set s.views id v }) (sym (set-get_or s.words i 0))
      (subst (λ (vs : List V). Rule record { words = s.words; homes = s.homes; views = vs }) (sym (set_again s.views id v at)) r)

  pub takes_at : (slots id : ℕ) (me : Me T V) → me.0.stage ≡ Drawn → Allows Rule slots id me 1 (λ n. n) (λ r n. takes_turn entries legal_over jobs_out meets me r n)
  takes_at slots id me drawn s r _ at _ =
      let v : V = me.0 in
      let busy : IsBusy v.stage = stage_is v IsBusy Drawn drawn tt in
      let live : IsLive v.stage = stage_is v IsLive Drawn drawn tt in
      let found : get_or s.words 1 0 ≡ r.serving % 2 ^ 64 = ap (λ ws. get_or ws 1 0) r.words in
      let f = r.each id v at in
      dite (ℕ_discrete (get_or s.words 1 0) (v.ticket % 2 ^ 64))
      (λ e. let mine : r.serving ≡ v.ticket = same_turn s r id v at busy (sym found ∙ e) in
      let home : IsAtHome entries seat_of legal_over jobs_out meets opening r.log r.outs s = ⊎_elim (λ h. h) (λ (h : IsAtWork s.views). absurd (let hb = has_busy h.1.stage h.3 in
      let same : h.0 ≡ id = r.apart h.0 id h.1 v h.2 at hb busy (((r.each h.0 h.1 h.2).holds h.3).0 ∙ mine) in
      subst HasObject (ap (λ (z : V). z.stage) (at_one s.views h.0 h.1 v h.2 (ap (get_elem? s.views) same ∙ at)) ∙ drawn) h.3)) r.place in
      let x : T = home.0 in let w : V = moved v (entries x) v.mine v.holds (jobs_out opening x) v.steps Served v.ticket in
      let heavier = reweigh s id v w at in let light : weight v.stage ≡ 1 = ap weight drawn in let wait = r.waiting in (
        w,
        takes 0 x,
        home.1,
        turned entries seat_of legal_over jobs_out meets opening limit s r 1 (get_or s.words 1 0) (set s.homes 0 none) id v (entries x) v.mine v.holds (jobs_out opening x) v.steps Served v.ticket r.log r.outs r.serving r.ticket r.count at live
            (ap (λ ws. set ws 1 (get_or ws 1 0)) r.words)
            (omega (arith, heavier, light, wait))
            (λ k _. refl) (f.owns live) (begins_all r.log) (subst (λ l. Begins l r.log) (sym home.2) (begins_all r.log)) (le_refl r.count) f.counts
            (λ _. f.waits busy) (λ _. (sym mine, home.2, home.5)) (λ e. subst (λ st. IsLive st) e tt) (unshifted s r id v at)
            (λ j u e other b. let g = (r.each j u e).waits b in (g.0, g.1, λ _ same. other (r.apart j id u v e at b busy same)))
            (λ j u e _ h. absurd (home.4 (j, u, e, h)))
            (λ k low high. let d = r.drawn k low high in dite (ℕ_discrete d.0 id)
            (λ e. (id, w, set_here s.views id w (at_below s.views id v at), tt, ap (λ (z : V). z.ticket) (sym (at_one s.views d.0 d.1 v d.2 (ap (get_elem? s.views) e ∙ at))) ∙ d.4))
            (λ ne. (d.0, d.1, set_else s.views id d.0 w ne ∙ d.2, d.3, d.4)))
            (inr (id, w, set_here s.views id w (at_below s.views id v at), tt)),
        subst (λ b. MatchBool b (Takes entries legal_over jobs_out meets me (w, (0, x) ∷ me.1)) ((w, (0, x) ∷ me.1) ≡ me)) (sym (eq-eqb (get_or s.words 1 0) (v.ticket % 2 ^ 64) e))
            (x, opening, refl, f.from live, home.3, subst (λ l. Begins v.seen l) (sym home.2) f.begins, subst (λ o. AllMeet meets o v.holds) (sym home.5) f.meeting, r.distinct id v at, subst (λ (o : List (ℕ × C)). Distinct o) (sym home.5) r.once),
      ))
      (λ ne. (
        v,
        keeps,
        tt,
        unmoved s r 1 id v at,
        subst (λ b. MatchBool b (Takes entries legal_over jobs_out meets me me) (me ≡ me)) (sym (ne_eqb (get_or s.words 1 0) (v.ticket % 2 ^ 64) ne)) refl,
      ))

  pub counts_one : (slots id : ℕ) (me : Me T V) (x o : T) (own : List E) (hold : List (ℕ × I)) → me.0.stage ≡ Served → me.1 ≡ (0, x) ∷ [] → entries x ≡ me.0.seen ++ own → IsOwn seat_of me.0.number own → Shifts meets me.0.holds me.0.outs hold (jobs_out o x) → me.0.opening ≡ Some o
      → Allows Rule slots id me 2 (λ n. (n + 1) % 2 ^ 64) (λ r n. counts_step entries jobs_out hold me n)
  counts_one slots id me x o own hold served hand more is shifts org s r _ at _ =
      let v : V = me.0 in let c : ℕ = r.count + 1 in let w : V = moved v (entries x) (v.mine ++ own) hold (jobs_out o x) c Counted v.ticket in
      let f = r.each id v at in
      let live : IsLive v.stage = stage_is v IsLive Served served tt in
      let busy : IsBusy v.stage = stage_is v IsBusy Served served tt in
      let holds = f.holds (stage_is v HasObject Served served tt) in
      let grown : entries x ≡ r.log ++ own = more ∙ ap (λ l. l ++ own) holds.1 in
      let is' : IsOwn seat_of id own = subst (λ n. IsOwn seat_of n own) (f.numbered live) is in
      let split : (k : ℕ) → by_seat seat_of k (entries x) ≡ by_seat seat_of k r.log ++ by_seat seat_of k own = λ k. ap (by_seat seat_of k) grown ∙ by_seat-append seat_of k r.log own in
      let heavier = reweigh s id v w at in let light : weight v.stage ≡ 1 = ap weight served in let wait = r.waiting in let before = f.counts in (
        w,
        keeps,
        tt,
        turned entries seat_of legal_over jobs_out meets opening limit s r 2 ((get_or s.words 2 0 + 1) % 2 ^ 64) s.homes id v (entries x) (v.mine ++ own) hold (jobs_out o x) c Counted v.ticket (entries x) (jobs_out o x) r.serving r.ticket c at live
            (ap (λ ws. set ws 2 ((get_or ws 2 0 + 1) % 2 ^ 64)) r.words ∙ ap (λ n. (r.ticket % 2 ^ 64) ∷ (r.serving % 2 ^ 64) ∷ n ∷ []) (mod-add-mod r.count (2 ^ 64) 1))
            (omega (arith, heavier, light, wait))
            (λ k ne. split k ∙ (ap (λ l. by_seat seat_of k r.log ++ l) (own_else seat_of id k own is' ne) ∙ append-nil (by_seat seat_of k r.log)))
            (split id ∙ (ap (λ l. l ++ by_seat seat_of id own) (f.owns live) ∙ ap (λ l. v.mine ++ l) (own_here seat_of id own is')))
            (own, sym grown) (begins_all (entries x)) (omega arith) (le_refl c)
            (λ _. f.waits busy) (λ _. (holds.0, refl, refl)) (λ e. subst (λ st. IsLive st) e tt) (subst (λ z. Shifts meets v.holds z hold (jobs_out o x)) holds.2 shifts)
            (λ j u e other b. let g = (r.each j u e).waits b in (g.0, g.1, λ _ same. other (r.apart j id u v e at b busy same)))
            (λ j u e other h. absurd (other (r.apart j id u v e at (has_busy u.stage h) busy (((r.each j u e).holds h).0 ∙ sym holds.0))))
            (λ k low high. let d = r.drawn k low high in dite (ℕ_discrete d.0 id)
            (λ e. (id, w, set_here s.views id w (at_below s.views id v at), tt, ap (λ (z : V). z.ticket) (sym (at_one s.views d.0 d.1 v d.2 (ap (get_elem? s.views) e ∙ at))) ∙ d.4))
            (λ ne. (d.0, d.1, set_else s.views id d.0 w ne ∙ d.2, d.3, d.4)))
            (inr (id, w, set_here s.views id w (at_below s.views id v at), tt)),
        (x, o, own, hand, more, refl, omega (arith, before), org),
      )

  pub gives_turn : (slots id : ℕ) (me : Me T V) (x : T) → 0 < slots → me.0.stage ≡ Counted → me.1 ≡ (0, x) ∷ [] → entries x ≡ me.0.seen → legal_over opening x → jobs_out opening x ≡ me.0.outs
      → Allows Rule slots id me 1 (λ n. (n + 1) % 2 ^ 64) (λ r n. gives_back me n)
  gives_turn slots id me x some_slot counted hand same legal jobs s r long at _ =
      let v : V = me.0 in let a : ℕ = r.serving + 1 in let w : V = moved v v.seen v.mine v.holds v.outs v.steps Idle v.ticket in
      let f = r.each id v at in
      let live : IsLive v.stage = stage_is v IsLive Counted counted tt in
      let busy : IsBusy v.stage = stage_is v IsBusy Counted counted tt in
      let holds = f.holds (stage_is v HasObject Counted counted tt) in
      let heavier = reweigh s id v w at in let light : weight v.stage ≡ 1 = ap weight counted in let wait = r.waiting in
      let homes : List (maybe.Option T) = set s.homes 0 (some x) in
      let alone : (j : ℕ) (u : V) → get_elem? s.views j ≡ some u → j ≢ id → HasObject u.stage → ⊥ = λ j u e other h. other (r.apart j id u v e at (has_busy u.stage h) busy (((r.each j u e).holds h).0 ∙ sym holds.0)) in
      let kept : Rule record { words = set s.words 1 ((get_or s.words 1 0 + 1) % 2 ^ 64); homes = homes; views = set s.views id w } =
      turned entries seat_of legal_over jobs_out meets opening limit s r 1 ((get_or s.words 1 0 + 1) % 2 ^ 64) homes id v v.seen v.mine v.holds v.outs v.steps Idle v.ticket r.log r.outs a r.ticket r.count at live
      (ap (λ ws. set ws 1 ((get_or ws 1 0 + 1) % 2 ^ 64)) r.words ∙ ap (λ n. (r.ticket % 2 ^ 64) ∷ n ∷ (r.count % 2 ^ 64) ∷ []) (mod-add-mod r.serving (2 ^ 64) 1))
      (omega (arith, heavier, light, wait))
      (λ k _. refl) (f.owns live) (begins_all r.log) f.begins (le_refl r.count) f.counts
      (λ h. absurd h) (λ h. absurd h) (λ e. subst (λ st. IsLive st) e tt) (unshifted s r id v at)
      (λ j u e other b. let g = (r.each j u e).waits b in let ne : u.ticket ≢ r.serving = λ same. other (r.apart j id u v e at b busy (same ∙ sym holds.0)) in (omega (arith, g.0, ne), g.1, λ h. absurd h))
      (λ j u e other h. absurd (alone j u e other h))
      (λ k low high. let d = r.drawn k (omega (arith, low)) high in
      (d.0, d.1, set_else s.views id d.0 w (λ e. let same : d.1.ticket ≡ r.serving = ap (λ (z : V). z.ticket) (at_one s.views d.0 d.1 v d.2 (ap (get_elem? s.views) e ∙ at)) ∙ holds.0 in let is = d.4 in omega (arith, low, same, is)) ∙ d.2, d.3, d.4))
      (inl (
        x,
        set_here s.homes 0 (some x) (subst (λ n. 0 < n) (sym long) some_slot),
        same ∙ holds.1,
        legal,
        λ h. ⊎_elim (λ (y : (h.0 ≡ id) × (w ≡ h.1)). subst (λ (z : V). HasObject z.stage) (sym y.1) h.3) (λ (y : (h.0 ≢ id) × (get_elem? s.views h.0 ≡ some h.1)). alone h.0 h.1 y.1 y.0 h.3) (at_set s.views id h.0 w h.1 h.2),
        jobs ∙ holds.2,
      )) in (
        w,
        gives,
        tt,
        subst (λ (c : List (ℕ × T)). Rule (stepped s 1 ((get_or s.words 1 0 + 1) % 2 ^ 64) id c w gives)) (sym hand) kept,
        refl,
      )

  pub looks_at : (slots id : ℕ) (me : Me T V) → me.0.stage ≡ Idle → Allows Rule slots id me 2 (λ n. n) (λ r n. looks me r n)
  looks_at slots id me idle s r _ at _ =
      let v : V = me.0 in let w : V = moved v v.seen v.mine v.holds v.outs r.count v.stage v.ticket in
      let f = r.each id v at in
      let live : IsLive v.stage = stage_is v IsLive Idle idle tt in
      let heavier = reweigh s id v w at in let wait = r.waiting in
      let free : (P : Stage → Type 0) → (P Idle → ⊥) → P v.stage → ⊥ = λ P no h. no (subst P idle h) in (
        w,
        keeps,
        tt,
        turned entries seat_of legal_over jobs_out meets opening limit s r 2 (get_or s.words 2 0) s.homes id v v.seen v.mine v.holds v.outs r.count v.stage v.ticket r.log r.outs r.serving r.ticket r.count at live
            (ap (λ ws. set ws 2 (get_or ws 2 0)) r.words)
            (omega (arith, heavier, wait))
            (λ k _. refl) (f.owns live) (begins_all r.log) f.begins (le_refl r.count) (le_refl r.count)
            f.waits f.holds (λ e. subst IsLive e live) (unshifted s r id v at)
            (λ j u e other b. let g = (r.each j u e).waits b in (g.0, g.1, λ h. absurd (free IsBusy (λ z. z) h)))
            (λ j u e other h. (r.each j u e).holds h)
            (λ k low high. let d = r.drawn k low high in (d.0, d.1, set_else s.views id d.0 w (λ e. subst IsBusy (ap (λ (z : V). z.stage) (at_one s.views d.0 d.1 v d.2 (ap (get_elem? s.views) e ∙ at)) ∙ idle) d.3) ∙ d.2, d.3, d.4))
            (⊎_elim (λ (h : IsAtHome entries seat_of legal_over jobs_out meets opening r.log r.outs s). inl (
              h.0,
              h.1,
              h.2,
              h.3,
              λ x. ⊎_elim (λ (y : (x.0 ≡ id) × (w ≡ x.1)). free HasObject (λ z. z) (subst (λ (z : V). HasObject z.stage) (sym y.1) x.3))
                  (λ (y : (x.0 ≢ id) × (get_elem? s.views x.0 ≡ some x.1)). h.4 (x.0, x.1, y.1, x.3)) (at_set s.views id x.0 w x.1 x.2),
              h.5,
            ))
            (λ (h : IsAtWork s.views). inr (h.0, h.1, set_else s.views id h.0 w (λ e. subst HasObject (ap (λ (z : V). z.stage) (at_one s.views h.0 h.1 v h.2 (ap (get_elem? s.views) e ∙ at)) ∙ idle) h.3) ∙ h.2, h.3)) r.place),
        (refl, f.counts, ap (λ ws. get_or ws 2 0) r.words),
      )
