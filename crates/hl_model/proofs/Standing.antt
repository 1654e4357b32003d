-- One invariant of a site: what a mount gives has it, and each step and each run keep it while the site runs.
use Rattle.std.proofs.Common.{◌≡◌, ℕ, List, [], ◌∷◌, length, Option, Some, None, refl, ap, ◌∙◌, sym, subst}
use Rattle.std.specs.Prelude.{Contains}
use Rattle.hl_addr.specs.Layout.{Layout}
use Rattle.hl_placed.specs.Blocks.{Shelf, SerialsBelow}
use Rattle.hl_placed.specs.Placed.{PlacedTree, ArePlaced, EachFile, plain}
use Rattle.hl_tree.specs.Tree.{IsTree}
use Rattle.hl_model.specs.Cache.{IsCache}
use Rattle.hl_model.specs.Closed.{IsClosed, tables_of}
use Rattle.hl_model.specs.InSlots.{AreInSlots}
use Rattle.hl_model.specs.Mounted.{AreOpeningTables, IsMounted, OpeningTables, mounted}
use Rattle.hl_model.specs.Runs.{IsSite, Run, Stepped, Takes, shelf_behind}
use Rattle.hl_model.specs.Standing.{IsStanding}
use Rattle.hl_model.specs.Steps.{State}
use Rattle.hl_model.specs.Units.{IsQuiet}
use Rattle.hl_model.proofs.CacheStep.{step_keeps_cache}
use Rattle.hl_model.proofs.ClaimedBlocks.{in_none}
use Rattle.hl_model.proofs.Cleaned.{step_keeps_emptied, step_keeps_quiet}
use Rattle.hl_model.proofs.Exact.{mounted_cache}
use Rattle.hl_model.proofs.KeptStep.{step_keeps_serials}
use Rattle.hl_model.proofs.Reopened.{tables_open}
use Rattle.hl_model.proofs.Runs.{goes, running_site, run_stays_stopped, stands_now}

module _ (g : Layout) where
  -- a step
  pub step_stands : (shelf : Shelf) (before : State) (entry : Stepped) (after : State) → IsStanding g shelf before → Takes g shelf before entry after → after.site.stopped ≡ None
      → IsStanding g (shelf_behind entry.event entry.answer after.site.stopped shelf before.site.next_serial entry.mid.segment) after
  step_stands shelf before entry after standing takes runs = record {
    files = running_site g (shelf_behind entry.event entry.answer after.site.stopped shelf before.site.next_serial entry.mid.segment) after.site
        (goes g shelf entry.mid before entry.event after entry.answer (stands_now g shelf before.site standing.files) takes).stands runs;
    cache = step_keeps_cache g shelf entry.mid before entry.event after standing.cache takes.allowed takes.room runs entry.answer takes.step;
    away = step_keeps_serials g shelf entry.mid before entry.event after standing.files standing.away runs entry.answer takes.step;
    emptied = step_keeps_emptied g shelf entry.mid before entry.event after runs entry.answer takes.step standing.emptied;
    quiet = step_keeps_quiet g shelf entry.mid before entry.event after runs entry.answer takes.step standing.quiet;
  }

  -- a run
  pub run_stands : (shelf : Shelf) (before : State) (entries : List Stepped) (last : Shelf) (after : State) → IsStanding g shelf before → Run g shelf before entries last after → after.site.stopped ≡ None → IsStanding g last after
  run_stands shelf before [] last after standing run runs = subst (λ sh. IsStanding g sh after) (sym run.0) (subst (IsStanding g shelf) (sym run.1) standing)
  run_stands shelf before (entry ∷ entries) last after standing (mid, takes, rest) runs =
      run_stands (shelf_behind entry.event entry.answer mid.site.stopped shelf before.site.next_serial entry.mid.segment) mid entries last after
      (step_stands shelf before entry mid standing takes (ran mid.site.stopped refl)) rest runs
    where
      ran : (o : Option ℕ) → mid.site.stopped ≡ o → mid.site.stopped ≡ None
      ran None e = e
      ran (Some faults) e = let wrong : Some faults ≡ None = sym (run_stays_stopped g (shelf_behind entry.event entry.answer mid.site.stopped shelf before.site.next_serial entry.mid.segment) mid entries last after faults e rest).stopped ∙ runs in cc

  -- a mount
  module _ (shelf : Shelf) (tree : PlacedTree) (tables : OpeningTables) (counts : List ℕ) (s : State) (are : AreOpeningTables g tables) (long : length counts ≡ length g.volumes) (is : IsMounted g tree tables counts s)
      (site : IsSite shelf (mounted g tree tables counts)) (away : AreInSlots (mounted g tree tables counts)) where
    no_quiet : IsQuiet s.log
    no_quiet left = is.tidy

    pub mount_stands : IsStanding g shelf s
    mount_stands = record {
      files = subst (IsSite shelf) (sym is.site) site;
      cache = subst (IsCache g) (sym is.site) (mounted_cache g tree tables counts are long);
      away = subst AreInSlots (sym is.site) away;
      emptied = λ n listed. in_none n (subst (λ ns. Contains ns n) is.cleaned listed);
      quiet = no_quiet;
    }

  -- a closing, and a mount of what it leaves
  module _ (shelf : Shelf) (before after : State) (counts : List ℕ) (again : State) (standing : IsStanding g shelf before) (closed : IsClosed before after) (long : length counts ≡ length g.volumes) (is : IsMounted g after.site.tree (tables_of after.site) counts again) where
    site_of : (tree : PlacedTree) (tables : OpeningTables) → tree ≡ before.site.tree → tables ≡ tables_of before.site → IsSite shelf (mounted g tree tables counts)
    unfolding mounted
    site_of tree tables e f = record {
      tree = subst (λ t. IsTree (plain shelf t)) (sym e) standing.files.tree;
      files = subst (ArePlaced shelf) (sym e) standing.files.files;
      serials = subst (λ n. EachFile (SerialsBelow n) tree) (sym (ap (λ (t : OpeningTables). t.next_serial) f)) (subst (EachFile (SerialsBelow before.site.next_serial)) (sym e) standing.files.serials);
    }

    away_of : (tree : PlacedTree) (tables : OpeningTables) → tree ≡ before.site.tree → tables ≡ tables_of before.site → AreInSlots (mounted g tree tables counts)
    unfolding mounted
    away_of tree tables e f = subst (λ t. AreInSlots (mounted g t tables counts)) (sym e) (subst (λ ts. AreInSlots (mounted g before.site.tree ts counts)) (sym f) standing.away)

    pub closed_stands_again : IsStanding g shelf again
    closed_stands_again = mount_stands shelf after.site.tree (tables_of after.site) counts again
        (subst (AreOpeningTables g) (sym closed.tables) (tables_open g before.site standing.cache)) long is
        (site_of after.site.tree (tables_of after.site) closed.tree closed.tables) (away_of after.site.tree (tables_of after.site) closed.tree closed.tables)
