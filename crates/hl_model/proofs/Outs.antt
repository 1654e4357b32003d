-- The jobs that are out, as lines, slots and jobs change.
use Rattle.std.proofs.Common.{arith, ◌≡◌, ◌≢◌, ℕ, suc, ◌<◌, ◌≤◌, ◌⊎◌, Bool, true, false, ◌||◌, cond, not, nat_eq, List, [], ◌∷◌, ◌++◌, get_or, set, filter, length, length-append, Some, None, refl, ap, ◌∙◌, sym, subst, inl, inr, T}
use Rattle.std.proofs.lemmas.Bool.Decides.{nat_tests}
use Rattle.std.specs.List.{list_any}
use Rattle.hl_addr.specs.Layout.{Layout}
use Rattle.hl_tseg.specs.declared.slot.Slot.{Slot}
use Rattle.hl_tseg.specs.declared.slot.Slot.TheVariants.{Free}
use Rattle.hl_model.specs.Cache.{IsOut, state_in, IsJobOf, AreOthers, AreApart, AreJobs}
use Rattle.hl_media.specs.declared.job.JobNote.{JobNote}
use Rattle.hl_media.specs.declared.job.JobKind.{JobKind}
use Rattle.hl_media.specs.declared.job.JobKind.TheVariants.{Copy, Fetch}
use Rattle.hl_lines.specs.declared.state.LineState.{LineState}
use Rattle.hl_lines.specs.declared.state.LineState.TheVariants.{Empty, Aside}
use Rattle.hl_lines.specs.Lines.{clean_segment, is_aside}
use Rattle.hl_model.proofs.Sets.{at_set, true_false}

-- LISTS OF JOBS

pub out-push : (job new : JobNote) (jobs : List JobNote) → IsOut job (jobs ++ new ∷ []) → IsOut job jobs ⊎ (job ≡ new)
out-push job new [] (inl e) = inr e
out-push job new [] (inr e) = absurd e
out-push job new (other ∷ jobs) (inl e) = inl (inl e)
out-push job new (other ∷ jobs) (inr e) = elim (out-push job new jobs e) as (λ _. IsOut job (other ∷ jobs) ⊎ (job ≡ new)) [ inl h ↦ inl (inr h) | inr h ↦ inr h ]

out-before : (job new : JobNote) (jobs : List JobNote) → IsOut job jobs → IsOut job (jobs ++ new ∷ [])
out-before job new [] e = absurd e
out-before job new (other ∷ jobs) (inl e) = inl e
out-before job new (other ∷ jobs) (inr e) = inr (out-before job new jobs e)

out-last : (new : JobNote) (jobs : List JobNote) → IsOut new (jobs ++ new ∷ [])
out-last new [] = inl refl
out-last new (other ∷ jobs) = inr (out-last new jobs)

pub out-filter : (p : JobNote → Bool) (job : JobNote) (jobs : List JobNote) → IsOut job (filter p jobs) → IsOut job jobs × (p job ≡ true)
out-filter p job [] e = absurd e
out-filter p job (other ∷ jobs) e = elim (p other) as (λ b. p other ≡ b → IsOut job (cond b (other ∷ filter p jobs) (filter p jobs)) → IsOut job (other ∷ jobs) × (p job ≡ true)) [
  | true ↦ λ t h. by_place (λ h. out-filter p job jobs h) t h
  | false ↦ λ t h. let rest = out-filter p job jobs h in (inr rest.0, rest.1)
] refl e
  where
    by_place : (IsOut job (filter p jobs) → IsOut job jobs × (p job ≡ true)) → p other ≡ true → (job ≡ other) ⊎ IsOut job (filter p jobs) → IsOut job (other ∷ jobs) × (p job ≡ true)
    by_place later t (inl h) = (inl h, ap p h ∙ t)
    by_place later t (inr h) = let rest = later h in (inr rest.0, rest.1)

out-kept : (p : JobNote → Bool) (job : JobNote) (jobs : List JobNote) → IsOut job jobs → p job ≡ true → IsOut job (filter p jobs)
out-kept p job [] out e = absurd out
out-kept p job (other ∷ jobs) (inl here) e = elim (p other) as (λ b. p other ≡ b → IsOut job (cond b (other ∷ filter p jobs) (filter p jobs))) [
  | true ↦ λ t. inl here
  | false ↦ λ t. true_false (p job) e (ap p here ∙ t)
] refl
out-kept p job (other ∷ jobs) (inr out) e = elim (p other) as (λ b. IsOut job (cond b (other ∷ filter p jobs) (filter p jobs))) [
  | true ↦ inr (out-kept p job jobs out e)
  | false ↦ out-kept p job jobs out e
]

pub one_volume : (jobs : List JobNote) → AreApart jobs → (job other : JobNote) → IsOut job jobs → IsOut other jobs → job.volume ≡ other.volume → job ≡ other
one_volume [] apart job other out out_other e = absurd out
one_volume (first ∷ jobs) apart job other (inl here) (inl there) e = here ∙ sym there
one_volume (first ∷ jobs) apart job other (inl here) (inr there) e = absurd ((apart.0 other there).volume (sym e ∙ ap (λ (j : JobNote). j.volume) here))
one_volume (first ∷ jobs) apart job other (inr here) (inl there) e = absurd ((apart.0 job here).volume (e ∙ ap (λ (j : JobNote). j.volume) there))
one_volume (first ∷ jobs) apart job other (inr here) (inr there) e = one_volume jobs apart.1 job other here there e

pub one_line_job : (jobs : List JobNote) → AreApart jobs → (job other : JobNote) → IsOut job jobs → IsOut other jobs → job.line ≡ other.line → job ≡ other
one_line_job [] apart job other out out_other e = absurd out
one_line_job (first ∷ jobs) apart job other (inl here) (inl there) e = here ∙ sym there
one_line_job (first ∷ jobs) apart job other (inl here) (inr there) e = absurd ((apart.0 other there).line (sym e ∙ ap (λ (j : JobNote). j.line) here))
one_line_job (first ∷ jobs) apart job other (inr here) (inl there) e = absurd ((apart.0 job here).line (e ∙ ap (λ (j : JobNote). j.line) there))
one_line_job (first ∷ jobs) apart job other (inr here) (inr there) e = one_line_job jobs apart.1 job other here there e

apart-filter : (p : JobNote → Bool) (jobs : List JobNote) → AreApart jobs → AreApart (filter p jobs)
apart-filter p [] apart = tt
apart-filter p (job ∷ jobs) apart = elim (p job) as (λ b. AreApart (cond b (job ∷ filter p jobs) (filter p jobs))) [
  | true ↦ (λ other out. apart.0 other (out-filter p other jobs out).0, apart-filter p jobs apart.1)
  | false ↦ apart-filter p jobs apart.1
]

apart-push : (new : JobNote) (jobs : List JobNote) → AreApart jobs → ((job : JobNote) → IsOut job jobs → AreOthers job new) → AreApart (jobs ++ new ∷ [])
apart-push new [] apart others = (λ other out. absurd out, tt)
apart-push new (job ∷ jobs) apart others = (
  λ other out. elim (out-push other new jobs out) as (λ _. AreOthers job other) [
    | inl was ↦ apart.0 other was
    | inr is ↦ subst (λ o. AreOthers job o) (sym is) (others job (inl refl))
  ],
  apart-push new jobs apart.1 (λ one out. others one (inr out)),
)

few-filter : (p : JobNote → Bool) (jobs : List JobNote) → length (filter p jobs) ≤ length jobs
few-filter p [] = omega arith
few-filter p (job ∷ jobs) = elim (p job) as (λ b. length (cond b (job ∷ filter p jobs) (filter p jobs)) ≤ suc (length jobs)) [
  | true ↦ let less = few-filter p jobs in omega arith
  | false ↦ let less = few-filter p jobs in omega arith
]

-- a line without a job is none of theirs
pub line_free : (line : ℕ) (job : JobNote) (jobs : List JobNote) → list_any (λ (j : JobNote). nat_eq j.line line) jobs ≡ false → IsOut job jobs → job.line ≡ line → ⊥
line_free line job [] none out e = out
line_free line job (other ∷ jobs) none (inl here) e =
    let same : other.line ≡ line = ap (λ (j : JobNote). j.line) (sym here) ∙ e in
    grind (arith, nat_tests)
line_free line job (other ∷ jobs) none (inr out) e = line_free line job jobs (later (nat_eq other.line line) none) out e
  where
    later : (b : Bool) → (b || list_any (λ (j : JobNote). nat_eq j.line line) jobs) ≡ false → list_any (λ (j : JobNote). nat_eq j.line line) jobs ≡ false
    later true h = absurd (subst T h tt)
    later false h = h

-- WHAT CHANGES ROUND THEM

-- the job is of a volume that stays out
abbrev pub is_of_other : ℕ → JobNote → Bool
is_of_other volume job = not (nat_eq job.volume volume)

module _ (g : Layout) (slots : List Slot) (lines : List LineState) (jobs : List JobNote) (are : AreJobs g slots lines jobs) where
  -- a line changes that no job has, and slots that none has
  pub jobs-set : (new_slots : List Slot) (v : ℕ) (state : LineState) → v < length lines → is_aside state ≡ false
      → ((job : JobNote) → IsOut job jobs → job.line ≢ v)
      → ((job : JobNote) → IsOut job jobs → get_or new_slots job.tseg Free ≡ get_or slots job.tseg Free)
      → ((job : JobNote) → IsOut job jobs → job.kind ≡ Fetch → clean_segment state ≡ Some job.tseg → ⊥)
      → AreJobs g new_slots (set lines v state) jobs
  jobs-set new_slots v state within isnt free kept alone = record {
    each = λ job out. let is = are.each job out in record {
      line = at_set lines v state Empty job.line within (λ same _. absurd (free job out same)) (λ _ old. old ∙ is.line);
      slot = kept job out ∙ is.slot;
      volume = is.volume;
      place = is.place;
      alone = λ fetch i e. at_set lines v state Empty i within
          (λ _ new. alone job out fetch (sym (ap clean_segment new) ∙ e))
          (λ _ old. is.alone fetch i (sym (ap clean_segment old) ∙ e));
    };
    aside = λ i e. at_set lines v state Empty i within
        (λ _ new. true_false (is_aside state) (sym (ap is_aside new) ∙ e) isnt)
        (λ _ old. are.aside i (sym (ap is_aside old) ∙ e));
    apart = are.apart;
    two = are.two;
  }

  -- A copy is over: its line stays.
  pub jobs-copied : (over : JobNote) → IsOut over jobs → over.kind ≡ Copy → AreJobs g slots lines (filter (is_of_other over.volume) jobs)
  jobs-copied over out copy = record {
    each = λ job is. are.each job (out-filter (is_of_other over.volume) job jobs is).0;
    aside = λ i e. let job = are.aside i e in (job.0, out-kept (is_of_other over.volume) job.0 jobs job.1 (stays i e job.0 job.1 job.2), job.2);
    apart = apart-filter (is_of_other over.volume) jobs are.apart;
    two = let few = few-filter (is_of_other over.volume) jobs in let two = are.two in omega arith;
  }
    where
      not_aside : (kind : JobKind) (t : ℕ) → kind ≡ Copy → is_aside (state_in kind t) ≡ false
      not_aside kind t e = ap (λ k. is_aside (state_in k t)) e

      stays : (i : ℕ) → is_aside (get_or lines i Empty) ≡ true → (job : JobNote) → IsOut job jobs → job.line ≡ i → is_of_other over.volume job ≡ true
      stays i e job is at = elim (nat_eq job.volume over.volume) as (λ b. nat_eq job.volume over.volume ≡ b → not b ≡ true) [
        | true ↦ λ h.
            let volume : job.volume ≡ over.volume = grind (arith, nat_tests) in
            let same : job ≡ over = one_volume jobs are.apart job over is out volume in
            let line : over.line ≡ i = ap (λ (j : JobNote). j.line) (sym same) ∙ at in
            true_false (is_aside (get_or lines i Empty)) e
            (ap (λ n. is_aside (get_or lines n Empty)) (sym line) ∙ ap is_aside (are.each over out).line ∙ not_aside over.kind over.tseg copy)
        | false ↦ λ h. refl
      ] refl

  -- A fetch is over: its line is empty.
  pub jobs-fetched : (over : JobNote) → IsOut over jobs → over.line < length lines → AreJobs g slots (set lines over.line Empty) (filter (is_of_other over.volume) jobs)
  jobs-fetched over out within = record {
    each = λ job is. let was = out-filter (is_of_other over.volume) job jobs is in let of = are.each job was.0 in record {
      line = at_set lines over.line Empty Empty job.line within (λ same _. absurd (elsewhere job is same)) (λ _ old. old ∙ of.line);
      slot = of.slot;
      volume = of.volume;
      place = of.place;
      alone = λ fetch i e. at_set lines over.line Empty Empty i within
          (λ _ new. let none : None ≡ Some job.tseg = sym (ap clean_segment new) ∙ e in cc)
          (λ _ old. of.alone fetch i (sym (ap clean_segment old) ∙ e));
    };
    aside = λ i e. at_set lines over.line Empty Empty i within
        (λ _ new. true_false (is_aside (get_or (set lines over.line Empty) i Empty)) e (ap is_aside new))
        (λ differ old. let job = are.aside i (sym (ap is_aside old) ∙ e) in (job.0, out-kept (is_of_other over.volume) job.0 jobs job.1 (stays i differ job.0 job.1 job.2), job.2));
    apart = apart-filter (is_of_other over.volume) jobs are.apart;
    two = let few = few-filter (is_of_other over.volume) jobs in let two = are.two in omega arith;
  }
    where
      elsewhere : (job : JobNote) → IsOut job (filter (is_of_other over.volume) jobs) → job.line ≢ over.line
      elsewhere job is e =
          let was = out-filter (is_of_other over.volume) job jobs is in
          let same : job ≡ over = one_line_job jobs are.apart job over was.0 out e in
          let volume : job.volume ≡ over.volume = ap (λ (j : JobNote). j.volume) same in
          let other : not (nat_eq job.volume over.volume) ≡ true = was.1 in
          grind (arith, nat_tests)

      stays : (i : ℕ) → i ≢ over.line → (job : JobNote) → IsOut job jobs → job.line ≡ i → is_of_other over.volume job ≡ true
      stays i differ job is at = elim (nat_eq job.volume over.volume) as (λ b. nat_eq job.volume over.volume ≡ b → not b ≡ true) [
        | true ↦ λ h.
            let volume : job.volume ≡ over.volume = grind (arith, nat_tests) in
            let same : job ≡ over = one_volume jobs are.apart job over is out volume in
            absurd (differ (sym at ∙ ap (λ (j : JobNote). j.line) same))
        | false ↦ λ h. refl
      ] refl

  -- the jobs that are left have other lines and volumes
  pub left-others : (over : JobNote) → IsOut over jobs → (job : JobNote) → IsOut job (filter (is_of_other over.volume) jobs) → IsOut job jobs × (job.line ≢ over.line) × (job.volume ≢ over.volume)
  left-others over out job is =
      let was = out-filter (is_of_other over.volume) job jobs is in
      let other : job.volume ≢ over.volume = λ volume. (let e : not (nat_eq job.volume over.volume) ≡ true = was.1 in grind (arith, nat_tests)) in
      (was.0, λ e. other (ap (λ (j : JobNote). j.volume) (one_line_job jobs are.apart job over was.0 out e)), other)

  module _ (new : JobNote) (few : length jobs < 2) (volumes : (job : JobNote) → IsOut job jobs → job.volume ≢ new.volume) (no_line : (job : JobNote) → IsOut job jobs → job.line ≢ new.line) where
    others : AreApart (jobs ++ new ∷ [])
    others = apart-push new jobs are.apart (λ job out. record { volume = λ e. volumes job out (sym e); line = λ e. no_line job out (sym e) })

    both : length (jobs ++ new ∷ []) ≤ 2
    both = let long = length-append jobs (new ∷ []) in omega arith

    -- a copy goes out
    pub jobs-copying : IsJobOf g slots lines new → AreJobs g slots lines (jobs ++ new ∷ [])
    jobs-copying is = record {
      each = λ job out. elim (out-push job new jobs out) as (λ _. IsJobOf g slots lines job) [
        | inl was ↦ are.each job was
        | inr e ↦ subst (λ j. IsJobOf g slots lines j) (sym e) is
      ];
      aside = λ i e. let job = are.aside i e in (job.0, out-before job.0 new jobs job.1, job.2);
      apart = others;
      two = both;
    }

    -- a fetch goes out, for which a line is set aside
    pub jobs-fetching : new.line < length lines → IsJobOf g slots (set lines new.line Aside) new → AreJobs g slots (set lines new.line Aside) (jobs ++ new ∷ [])
    jobs-fetching within is = record {
      each = λ job out. elim (out-push job new jobs out) as (λ _. IsJobOf g slots (set lines new.line Aside) job) [
        | inl was ↦ let of = are.each job was in record {
          line = at_set lines new.line Aside Empty job.line within (λ same _. absurd (no_line job was same)) (λ _ old. old ∙ of.line);
          slot = of.slot;
          volume = of.volume;
          place = of.place;
          alone = λ fetch i e. at_set lines new.line Aside Empty i within
              (λ _ set. let none : None ≡ Some job.tseg = sym (ap clean_segment set) ∙ e in cc)
              (λ _ old. of.alone fetch i (sym (ap clean_segment old) ∙ e));
        }
        | inr e ↦ subst (λ j. IsJobOf g slots (set lines new.line Aside) j) (sym e) is
      ];
      aside = λ i e. at_set lines new.line Aside Empty i within
          (λ same _. (new, out-last new jobs, sym same))
          (λ _ old. let job = are.aside i (sym (ap is_aside old) ∙ e) in (job.0, out-before job.0 new jobs job.1, job.2));
      apart = others;
      two = both;
    }
