-- A worked example of the invariant: a site that was mounted, brought two segments into lines, and has two jobs out.
use Rattle.std.proofs.Common.{arith, ◌≡◌, inl, ℕ, zero, suc, ◌-◌, ◌/◌, ◌%◌, ◌<◌, ◌≤◌, true, false, cond, List, [], ◌∷◌, ◌++◌, replicate, length, length-append, get_or, Option, Some, None, option_map, refl, ap, sym, ◌∙◌, subst}
use Rattle.std.proofs.lemmas.List.{get_or_past}
use Rattle.std.specs.FinMap.{empty, get, get-empty, get-insert, gets, insert}
use Rattle.hl_addr.specs.Layout.{Layout}
use Rattle.hl_media.specs.declared.job.Carried.TheVariants.{Done}
use Rattle.hl_media.specs.declared.job.JobKind.TheVariants.{Copy, Fetch}
use Rattle.hl_media.specs.declared.job.JobNote.{JobNote}
use Rattle.hl_tree.specs.declared.node.Node.{Node}
use Rattle.hl_tree.specs.declared.node.Node.TheVariants.{Dir, File}
use Rattle.hl_tree.specs.Names.{path_cmp}
use Rattle.hl_tree.specs.OtherContents.{node_map}
use Rattle.hl_tree.specs.Tree.{IsTree, root_alone}
use Rattle.hl_tree.proofs.Maps.{path_total}
use Rattle.hl_tree.proofs.Moved.{Names, same, same_is}
use Rattle.hl_tree_laws.proofs.OtherContents.{get-map_contents}
use Rattle.hl_tree_laws.proofs.Tree.{IsTree-insert}
use Rattle.hl_tseg.specs.Slots.{serial_of}
use Rattle.hl_tseg.specs.declared.slot.Slot.{Slot}
use Rattle.hl_tseg.specs.declared.slot.Slot.TheVariants.{Free, Home, Spoilt, Staged}
use Rattle.hl_placed.specs.Blocks.{Away, Here, Hole, IsPlacedFile, PlacedFile, SerialsAre, SerialsBelow, Shelf, blocks_of, byte_of, file_block}
use Rattle.hl_placed.specs.Placed.{ArePlaced, EachFile, PlacedTree, plain}
use Rattle.hl_lines.specs.declared.state.LineState.TheVariants.{Aside, Clean, Empty, Staging}
use Rattle.hl_model.specs.Answers.{SiteAnswer}
use Rattle.hl_model.specs.Answers as answers
use Rattle.hl_model.specs.Begins.{begin_copy, begin_need}
use Rattle.hl_model.specs.Cleaning.{LogUse}
use Rattle.hl_model.specs.Dues.{finds_full, is_due}
use Rattle.hl_model.specs.Ends.{end_job}
use Rattle.hl_model.specs.Events.{SiteEvent, BeginCopy, BeginNeed, EndJob}
use Rattle.hl_model.specs.InSlots.{IsInSlot}
use Rattle.hl_model.specs.Lines.{staged_line}
use Rattle.hl_model.specs.Mounted.{AreOpeningTables, OpeningTables, mounted}
use Rattle.hl_model.specs.Ruled.{told_of}
use Rattle.hl_model.specs.Rules.{rules}
use Rattle.hl_model.specs.Runs.{Run, Stepped, Takes}
use Rattle.hl_model.specs.Site.{SiteState}
use Rattle.hl_model.specs.Standing.{IsStanding}
use Rattle.hl_model.specs.Steps.{IsRuled, State}
use Rattle.hl_model.specs.Units.{LeavesLog, LogGoesOn, Middles}
use Rattle.hl_model.proofs.Standing.{mount_stands, run_stands}
use Rattle.hl_model.proofs.WorkedExamples.{log_with}

-- THE FILES

-- a file of two blocks, each away in a segment of its own
abbrev pub a_file : PlacedFile
a_file = record { size = 8192; used = 0; blocks = Away 1 1 ∷ Away 2 1 ∷ [] }

abbrev pub its_path : Names
its_path = (97 ∷ []) ∷ []

abbrev pub its_tree : PlacedTree
its_tree = insert root_alone its_path (File a_file)

not_the_root : {P : Type 0} (path : Names) (name : List ℕ) → path ++ name ∷ [] ≡ [] → P
not_the_root path name e = let long = length-append path (name ∷ []) in let none : length (path ++ name ∷ []) ≡ 0 = ap length e in absurd (omega arith)

abbrev nothing : PlacedTree
nothing = empty

root_only : (path : Names) (node : Node PlacedFile) → get (root_alone {B = PlacedFile}) path ≡ Some node → (path ≡ []) × (node ≡ Dir)
root_only path node e = elim (same path []) as (λ b. same path [] ≡ b → (path ≡ []) × (node ≡ Dir)) [
  | true ↦ λ f. (same_is path [] f, (let is : Some Dir ≡ Some node = sym (ap (λ b. cond b (Some Dir) (get nothing path)) f) ∙ sym (get-insert path_total nothing [] Dir path) ∙ e in cc))
  | false ↦ λ f. let wrong : None ≡ Some node = sym (get-empty path_cmp path) ∙ sym (ap (λ b. cond b (Some Dir) (get nothing path)) f) ∙ sym (get-insert path_total nothing [] Dir path) ∙ e in cc
] refl

root_is_tree : IsTree (root_alone {B = PlacedFile})
root_is_tree = record {
  root = simp (gets, path_total) refl;
  parents = λ path name node e. not_the_root path name (root_only (path ++ name ∷ []) node e).0;
}

its_parent : (q : Names) (name : List ℕ) → its_path ≡ q ++ name ∷ [] → get (root_alone {B = PlacedFile}) q ≡ Some Dir
its_parent [] name e = root_is_tree.root
its_parent (n ∷ q) name e = not_the_root q name (let rest : [] ≡ q ++ name ∷ [] = cc in sym rest)

tree_is_tree : IsTree its_tree
tree_is_tree = IsTree-insert root_alone root_is_tree its_path (File a_file) (λ e. let wrong : its_path ≡ [] = (root_only its_path Dir e).0 in cc) its_parent

each : (P : PlacedFile → Type 0) → P a_file → EachFile P its_tree
each P holds path file e = elim (same path its_path) as (λ b. same path its_path ≡ b → P file) [
  | true ↦ λ f. let is : Some (File a_file) ≡ Some (File file) = sym (ap (λ b. cond b (Some (File a_file)) (get (root_alone {B = PlacedFile}) path)) f) ∙ sym (get-insert path_total root_alone its_path (File a_file) path) ∙ e in
      let this : a_file ≡ file = cc in subst P this holds
  | false ↦ λ f. let there : get (root_alone {B = PlacedFile}) path ≡ Some (File file) = sym (ap (λ b. cond b (Some (File a_file)) (get (root_alone {B = PlacedFile}) path)) f) ∙ sym (get-insert path_total root_alone its_path (File a_file) path) ∙ e in
      let wrong : File file ≡ Dir = (root_only path (File file) there).1 in cc
] refl

module _ (shelf : Shelf) where
  plain_dir : (o : Option (Node PlacedFile)) (f : PlacedFile → List ℕ) (node : Node (List ℕ)) → option_map (node_map f) o ≡ Some node → (was : Node PlacedFile) × (o ≡ Some was)
  plain_dir None f node e = cc
  plain_dir (Some was) f node e = (was, refl)

  plain_tree : IsTree (plain shelf its_tree)
  unfolding plain
  plain_tree = record {
    root = get-map_contents _ its_tree [] ∙ ap (option_map (node_map _)) tree_is_tree.root;
    parents = λ path name node e.
        let was = plain_dir (get its_tree (path ++ name ∷ [])) _ node (sym (get-map_contents _ its_tree (path ++ name ∷ [])) ∙ e) in
        get-map_contents _ its_tree path ∙ ap (option_map (node_map _)) (tree_is_tree.parents path name was.0 was.1);
  }

  no_byte_behind : (j : ℕ) → 8192 ≤ j → byte_of shelf (file_block a_file (j / 4096)) (j % 4096) ≡ 0
  no_byte_behind j far = ap (λ b. byte_of shelf b (j % 4096)) (get_or_past a_file.blocks (j / 4096) Hole (omega arith))

  none_here : (i : ℕ) (bytes : List ℕ) → file_block a_file i ≡ Here bytes → length bytes ≡ 4096
  none_here zero bytes e = cc
  none_here (suc zero) bytes e = cc
  none_here (suc (suc i)) bytes e = cc

  file_is_placed : IsPlacedFile shelf a_file
  unfolding blocks_of
  file_is_placed = record { count = refl; full = none_here; zeros = no_byte_behind }

  pub files_are_placed : ArePlaced shelf its_tree
  files_are_placed = each (IsPlacedFile shelf) file_is_placed

-- its serials are these
aways : (S : ℕ → Type 0) → S 1 → S 2 → SerialsAre S a_file
aways S one two zero serial position e = let is : 1 ≡ serial = cc in subst S is one
aways S one two (suc zero) serial position e = let is : 2 ≡ serial = cc in subst S is two
aways S one two (suc (suc i)) serial position e = cc

-- THE SITE

abbrev pub site_b : Layout
site_b = record { k = 64; log = 16; lines = 16; inodes = 512; volumes = 5 ∷ 4 ∷ [] }

-- three segments are home, two wait for their copies, two slots are spoilt and two free
abbrev pub its_slots : List Slot
its_slots = Home 1 ∷ Home 2 ∷ Home 3 ∷ Staged 1 4 ∷ Spoilt ∷ Staged 0 5 ∷ Spoilt ∷ Free ∷ Free ∷ []

abbrev pub its_tables : OpeningTables
its_tables = record { slots = its_slots; full = false ∷ false ∷ []; next_serial = 6 }

-- the slot that waits for a line
abbrev spot_of_line : ℕ → ℕ
spot_of_line zero = 5
spot_of_line line = 3

-- the slot that has a serial
abbrev spot_of_serial : ℕ → ℕ
spot_of_serial (suc (suc (suc (suc (suc n))))) = 5
spot_of_serial serial = serial - 1

module _ (line : ℕ) where
  its_line : (t : ℕ) → staged_line (get_or its_slots t Free) ≡ Some line → (t ≡ spot_of_line line) × (line < 16)
  its_line (suc (suc (suc zero))) e = let is : 1 ≡ line = cc in (ap spot_of_line is, omega arith)
  its_line (suc (suc (suc (suc (suc zero))))) e = let is : 0 ≡ line = cc in (ap spot_of_line is, omega arith)
  its_line zero e = cc
  its_line (suc zero) e = cc
  its_line (suc (suc zero)) e = cc
  its_line (suc (suc (suc (suc zero)))) e = cc
  its_line (suc (suc (suc (suc (suc (suc zero)))))) e = cc
  its_line (suc (suc (suc (suc (suc (suc (suc zero))))))) e = cc
  its_line (suc (suc (suc (suc (suc (suc (suc (suc zero)))))))) e = cc
  its_line (suc (suc (suc (suc (suc (suc (suc (suc (suc n))))))))) e = cc

module _ (serial : ℕ) where
  its_serial : (t : ℕ) → serial_of (get_or its_slots t Free) ≡ Some serial → (t ≡ spot_of_serial serial) × (serial < 6)
  its_serial zero e = let is : 1 ≡ serial = cc in (ap spot_of_serial is, omega arith)
  its_serial (suc zero) e = let is : 2 ≡ serial = cc in (ap spot_of_serial is, omega arith)
  its_serial (suc (suc zero)) e = let is : 3 ≡ serial = cc in (ap spot_of_serial is, omega arith)
  its_serial (suc (suc (suc zero))) e = let is : 4 ≡ serial = cc in (ap spot_of_serial is, omega arith)
  its_serial (suc (suc (suc (suc zero)))) e = cc
  its_serial (suc (suc (suc (suc (suc zero))))) e = let is : 5 ≡ serial = cc in (ap spot_of_serial is, omega arith)
  its_serial (suc (suc (suc (suc (suc (suc zero)))))) e = cc
  its_serial (suc (suc (suc (suc (suc (suc (suc zero))))))) e = cc
  its_serial (suc (suc (suc (suc (suc (suc (suc (suc zero)))))))) e = cc
  its_serial (suc (suc (suc (suc (suc (suc (suc (suc (suc n))))))))) e = cc

tables_open : AreOpeningTables site_b its_tables
tables_open = record {
  slots = refl;
  full = refl;
  there = λ t line e. (its_line line t e).1;
  one_line = λ t u line e f. (its_line line t e).0 ∙ sym (its_line line u f).0;
  few = omega arith;
  one_slot = λ t u serial e f. (its_serial serial t e).0 ∙ sym (its_serial serial u f).0;
  below = λ t serial e. (its_serial serial t e).1;
}

abbrev its_log : LogUse
its_log = log_with [] []

abbrev its_counts : List ℕ
its_counts = 0 ∷ 0 ∷ []

-- the mounted site: lines 0 and 1 wait for their copies
abbrev pub opened : SiteState
opened = record {
  tree = its_tree;
  slots = its_slots;
  full = false ∷ false ∷ [];
  lines = Staging 5 ∷ Staging 3 ∷ replicate 14 Empty;
  order = [];
  jobs = [];
  requests = [];
  next_serial = 6;
  next_job = 1;
  next_request = 1;
  counts = 0 ∷ 0 ∷ [];
  stopped = None;
}

-- a fetch of a segment of volume 0, into a line
abbrev fetch : ℕ → ℕ → ℕ → ℕ → JobNote
fetch number t serial line = record { number = number; kind = Fetch; tseg = t; slot = t; serial = serial; line = line; volume = 0; faults = 0 }

-- the copy of line 0 to volume 1
abbrev copy : JobNote
copy = record { number = 4; kind = Copy; tseg = 5; slot = 0; serial = 5; line = 0; volume = 1; faults = 0 }

abbrev bound : JobNote → SiteEvent
bound note = EndJob (record { note = note; carried = Some Done; digest = []; found = record { serial = note.serial; digest = [] }; faults = 0 })

-- one segment and another is fetched and bound, and then a third fetch and a copy go out
abbrev fetching_one : SiteState
fetching_one = record opened { lines = Staging 5 ∷ Staging 3 ∷ Aside ∷ replicate 13 Empty; jobs = fetch 1 0 1 2 ∷ []; next_job = 2 }

abbrev one_bound : SiteState
one_bound = record opened { lines = Staging 5 ∷ Staging 3 ∷ Clean 0 ∷ replicate 13 Empty; order = 2 ∷ []; next_job = 2 }

abbrev fetching_other : SiteState
fetching_other = record one_bound { lines = Staging 5 ∷ Staging 3 ∷ Clean 0 ∷ Aside ∷ replicate 12 Empty; jobs = fetch 2 1 2 3 ∷ []; next_job = 3 }

abbrev both_bound : SiteState
both_bound = record one_bound { lines = Staging 5 ∷ Staging 3 ∷ Clean 0 ∷ Clean 1 ∷ replicate 12 Empty; order = 2 ∷ 3 ∷ []; next_job = 3 }

abbrev fetching_third : SiteState
fetching_third = record both_bound { lines = Staging 5 ∷ Staging 3 ∷ Clean 0 ∷ Clean 1 ∷ Aside ∷ replicate 11 Empty; jobs = fetch 3 2 3 4 ∷ []; next_job = 4 }

abbrev pub busy : SiteState
busy = record fetching_third { jobs = fetch 3 2 3 4 ∷ copy ∷ []; next_job = 5 }

abbrev at_work : SiteState → State
at_work s = record { site = s; log = its_log; faults = 0; write_faults = 0 }

abbrev nothing_written : Middles
nothing_written = record { first = its_log; unit = its_log; segment = [] }

module _ (shelf : Shelf) where
  mounted_stands : IsStanding site_b shelf (at_work opened)
  unfolding mounted
  mounted_stands = mount_stands site_b shelf its_tree its_tables its_counts (at_work opened) tables_open refl
      (record { site = refl; cleaned = refl; dirty = refl; tidy = refl; ran = refl })
      (record { tree = plain_tree shelf; files = files_are_placed shelf; serials = each (SerialsBelow 6) (aways (λ n. n < 6) (omega arith) (omega arith)) })
      (each (SerialsAre (IsInSlot its_slots)) (aways (IsInSlot its_slots) (0, refl) (1, refl)))

  -- a step that writes nothing
  rules_tell : (s new : SiteState) (event : SiteEvent) (answer : SiteAnswer) → told_of s (rules site_b s its_log shelf event) ≡ (answer, new)
      → finds_full site_b s its_log event ≡ false → is_due site_b s its_log event ≡ false → LeavesLog answer nothing_written its_log → IsRuled site_b shelf nothing_written (at_work s) event answer (at_work new)
  rules_tell s new event answer told room due leaves = record {
    first = record { room = room; goes = subst (λ b. LogGoesOn b its_log its_log) (sym due) refl };
    told = told;
    leaves = leaves;
    calm = refl;
    later = record { faults = omega arith; write_faults = omega arith; still = λ no. refl };
  }

  abbrev Step : SiteState → SiteEvent → SiteAnswer → SiteState → Type 0
  Step s event answer new = Takes site_b shelf (at_work s) (record { event = event; answer = answer; mid = nothing_written }) (at_work new)

  abbrev no_segments : List ℕ
  no_segments = []

  few_kept : length no_segments ≤ 8
  few_kept = omega arith

  first_fetch : Step opened (BeginNeed 0 []) (answers.Job (fetch 1 0 1 2)) fetching_one
  unfolding begin_need
  first_fetch = record { allowed = few_kept; room = omega arith; writes = tt; step = rules_tell opened fetching_one (BeginNeed 0 []) (answers.Job (fetch 1 0 1 2)) refl refl refl refl }

  first_bound : Step fetching_one (bound (fetch 1 0 1 2)) answers.Bound one_bound
  unfolding end_job
  first_bound = record {
    allowed = record { out = inl refl; later = omega arith; fault = λ faults e. cc; medium = λ e. cc };
    room = omega arith;
    writes = tt;
    step = rules_tell fetching_one one_bound (bound (fetch 1 0 1 2)) answers.Bound refl refl refl refl;
  }

  second_fetch : Step one_bound (BeginNeed 1 []) (answers.Job (fetch 2 1 2 3)) fetching_other
  unfolding begin_need
  second_fetch = record { allowed = few_kept; room = omega arith; writes = tt; step = rules_tell one_bound fetching_other (BeginNeed 1 []) (answers.Job (fetch 2 1 2 3)) refl refl refl refl }

  second_bound : Step fetching_other (bound (fetch 2 1 2 3)) answers.Bound both_bound
  unfolding end_job
  second_bound = record {
    allowed = record { out = inl refl; later = omega arith; fault = λ faults e. cc; medium = λ e. cc };
    room = omega arith;
    writes = tt;
    step = rules_tell fetching_other both_bound (bound (fetch 2 1 2 3)) answers.Bound refl refl refl refl;
  }

  third_fetch : Step both_bound (BeginNeed 2 []) (answers.Job (fetch 3 2 3 4)) fetching_third
  unfolding begin_need
  third_fetch = record { allowed = few_kept; room = omega arith; writes = tt; step = rules_tell both_bound fetching_third (BeginNeed 2 []) (answers.Job (fetch 3 2 3 4)) refl refl refl refl }

  a_copy : Step fetching_third BeginCopy (answers.Job copy) busy
  unfolding begin_copy
  a_copy = record { allowed = tt; room = omega arith; writes = tt; step = rules_tell fetching_third busy BeginCopy (answers.Job copy) refl refl refl refl }

  abbrev entry : SiteEvent → SiteAnswer → Stepped
  entry event answer = record { event = event; answer = answer; mid = nothing_written }

  abbrev pub six_steps : List Stepped
  six_steps = entry (BeginNeed 0 []) (answers.Job (fetch 1 0 1 2)) ∷ entry (bound (fetch 1 0 1 2)) answers.Bound
      ∷ entry (BeginNeed 1 []) (answers.Job (fetch 2 1 2 3)) ∷ entry (bound (fetch 2 1 2 3)) answers.Bound
      ∷ entry (BeginNeed 2 []) (answers.Job (fetch 3 2 3 4)) ∷ entry BeginCopy (answers.Job copy) ∷ []

  pub a_run_of_six_steps : Run site_b shelf (at_work opened) six_steps shelf (at_work busy)
  a_run_of_six_steps = (at_work fetching_one, first_fetch, (at_work one_bound, first_bound, (at_work fetching_other, second_fetch, (at_work both_bound, second_bound, (at_work fetching_third, third_fetch, (at_work busy, a_copy, (refl, refl)))))))

  -- two lines wait for their copies and two are clean, two slots are spoilt, two free, two staged and three home, and two jobs
  -- are out
  pub a_site_at_work_stands : IsStanding site_b shelf (at_work busy)
  a_site_at_work_stands = run_stands site_b shelf (at_work opened) six_steps shelf (at_work busy) mounted_stands a_run_of_six_steps refl
