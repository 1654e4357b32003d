-- What a store of a trial is opened with.
use Rattle.std.proofs.Common.{◌≡◌, sym, ap, ◌∙◌, subst, false, ℕ, ◌+◌, ◌<◌, ◌≤◌, ◌^◌, length, arith}
use Rattle.std.proofs.lemmas.List.{length-replicate}
use Rattle.hl_addr.specs.Layout.{Layout}
use Rattle.hl_log.specs.Free.{AreClean}
use Rattle.hl_log.specs.Logs.{LogValue}
use Rattle.hl_tables.specs.Values.{AreTables}
use Rattle.hl_store.specs.Opening.{AreParts}
use Rattle.hl_store.specs.declared.store.StoreParts.{StoreParts}
use Rattle.hl_trial.specs.Parts.{AreCleanTo, AreOfLog}
use Rattle.hl_trial.proofs.CleanLemmas.{clean_all}

-- tables of the site, and lists with an entry for each of its numbers, segments and lines
pub of_log : (g : Layout) (head : ℕ) (parts : StoreParts) → AreTables g parts.tables → length parts.uses.items ≡ g.inodes → length parts.live.items ≡ g.log
    → length parts.lines.states ≡ g.lines → AreCleanTo head (g.log + 1) parts.clean.items → g.log ≤ 4096 → AreOfLog g head parts
of_log g head parts tables uses live lines clean few = record {
  inodes = tables.shape.inodes ∙ length-replicate g.inodes 4294967295;
  used = tables.shape.used ∙ length-replicate g.log false;
  blocks = tables.shape.segment_size;
  volumes = tables.shape.volumes;
  uses = uses;
  live = live;
  lines = lines;
  clean = clean_all g head parts.clean.items clean;
  few = short;
} where
  short : length parts.clean.items < 2 ^ 32
  short = let most = clean.few in omega arith

-- the parts are of a log of the site
pub parts_of_log : {M : Type 0} (log : LogValue M) (g : Layout) (head : ℕ) (parts : StoreParts) → log.geometry ≡ g → log.at.head.seg ≡ head → AreOfLog g head parts → AreParts log parts
parts_of_log log g head parts site at are = record {
  inodes = are.inodes ∙ sym (same (λ x. x.inodes));
  used = are.used ∙ sym (same (λ x. x.log));
  blocks = are.blocks ∙ sym (same (λ x. x.k));
  volumes = are.volumes ∙ sym volumes;
  uses = are.uses ∙ sym (same (λ x. x.inodes));
  live = are.live ∙ sym (same (λ x. x.log));
  lines = are.lines ∙ sym (same (λ x. x.lines));
  clean = subst (λ (n : ℕ). AreClean log.geometry n parts.clean.items) (sym at) (subst (λ (x : Layout). AreClean x head parts.clean.items) (sym site) are.clean);
  few = are.few;
} where
  same : (f : Layout → ℕ) → f log.geometry ≡ f g
  same f = ap f site

  volumes : log.geometry.volumes ≡ g.volumes
  volumes = ap (λ x. x.volumes) site
