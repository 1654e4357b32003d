-- A walk, name by name.
use Rattle.std.proofs.Common.{◌≡◌, ℕ, ◌+◌, ◌-◌, ◌<◌, ◌≤◌, List, [], ◌∷◌, length, get_or, take, drop, Option, Some, None, Result, Ok, Err, Bool, false, true, suc, refl, sym, ◌∙◌, ap, arith}
use Rattle.std.proofs.Math.Seq.{drop-cons}
use Rattle.std.proofs.Math.ListN.{drop_of_length-le}
use Rattle.std.specs.FinMap.{get}
use Rattle.hl_media.specs.Causes.{Rose}
use Rattle.hl_media.specs.History.{History, state_now}
use Rattle.hl_media.specs.Moments.{Runs}
use Rattle.hl_log.specs.Logs.{OnlyReads}
use Rattle.hl_log.specs.Rest.{IsUnchanged}
use Rattle.hl_inode.specs.declared.inode.Kind.TheVariants.{Dir, File}
use Rattle.hl_tree.specs.declared.call.Refusal.{Refusal}
use Rattle.hl_tree.specs.declared.call.Refusal.TheVariants.{Enametoolong, Enoent, Enotdir}
use Rattle.hl_tree.specs.Names.{is_too_long}
use Rattle.hl_tree.specs.Refusals.{◌>>=◌, refused_if}
use Rattle.hl_dir.specs.declared.entry.Entry.{Entry}
use Rattle.hl_dir.specs.Dirs.{Spells}
use Rattle.hl_placed.specs.Blocks.{PlacedFile}
use Rattle.hl_paths.specs.Entries.{entry_number}
use Rattle.hl_paths.specs.Finding.{Parent, entries_in, find_number, find_on, find_parent, front_of, named, parent_with}
use Rattle.hl_paths.specs.Numbered.{Directory, Leaf, Numbering}
use Rattle.hl_nodes.specs.Contents.{Contents}
use Rattle.hl_entries.specs.declared.place.EntryPlace.{EntryPlace}
use Rattle.hl_entries.specs.Places.{IfSpells}
use Rattle.hl_store.specs.declared.answers.Node.{Node}
use Rattle.hl_store.specs.Values.{StoreValue}
use Rattle.hl_store.specs.Shapes.{IsNumber}
use Rattle.hl_store.specs.Finding.{HasNodeFound, OverNow, ReadsNodes}
use Rattle.hl_store.proofs.ReadRuns.{reads_none, reads_then, rose_since}
use Rattle.hl_ranges.specs.Directories.{HasDirectory, HasDirectoryDraft, HasKind}
use Rattle.hl_walk.specs.declared.walk.Halt.{Halt}
use Rattle.hl_walk.specs.declared.walk.Halt.TheVariants as halt
use Rattle.hl_walk.specs.declared.walk.ParentFound.{ParentFound}
use Rattle.hl_walk.specs.declared.found.FoundPath.{FoundPath}
use Rattle.hl_walk.specs.declared.found.FoundPath.TheVariants as found
use Rattle.hl_walk.specs.Trees.{KnowsTree, OfTree}
use Rattle.hl_walk.specs.Walks.{FindsPath, Halts, HasEntries, HasNoChild, HasNoEntries, HasNoParent, HasParent, IsChild, IsOfNumber, LeadsNowhere, LeadsTo, child_in, number_at}
use Rattle.hl_walk.proofs.KnownTrees.{directory_found, entries_of_bytes, file_found, leaf_of_kind}
use Rattle.hl_walk.proofs.KeptTrees.{number_before, of_tree_before, reads_both, reads_nothing}

-- the walk begins at the root's number
pub find_first : (numbered : Numbering PlacedFile) (path : List (List ℕ)) → find_number numbered path ≡ find_on numbered 1 path
unfolding find_number
find_first numbered path = refl

module _ (numbered : Numbering PlacedFile) (number : ℕ) (name : List ℕ) where
  -- a name leads to its child, from where the others lead on
  find_step : (names : List (List ℕ)) → find_on numbered number (name ∷ names) ≡ (child_in numbered number name >>= (λ child. find_on numbered child names))
  find_step names = by (entries_in (get numbered number))
    where
      by : (o : Result (List Entry) Refusal) → (o >>= (λ es. named (entry_number es name) >>= (λ child. find_on numbered child names)))
          ≡ ((o >>= (λ es. named (entry_number es name))) >>= (λ child. find_on numbered child names))
      by (Ok es) = refl
      by (Err why) = refl

  pub leads_on : (names : List (List ℕ)) (child : ℕ) → child_in numbered number name ≡ Ok child → find_on numbered number (name ∷ names) ≡ find_on numbered child names
  leads_on names child is = find_step names ∙ ap (λ (o : Result ℕ Refusal). o >>= (λ child. find_on numbered child names)) is

  pub leads_nowhere : (names : List (List ℕ)) (why : Refusal) → child_in numbered number name ≡ Err why → find_on numbered number (name ∷ names) ≡ Err why
  leads_nowhere names why is = find_step names ∙ ap (λ (o : Result ℕ Refusal). o >>= (λ child. find_on numbered child names)) is

  -- the child is by the entries
  pub child_by : (es : List Entry) (o : Option ℕ) → entries_in (get numbered number) ≡ Ok es → o ≡ entry_number es name → child_in numbered number name ≡ named o
  child_by es o at is = ap (λ (x : Result (List Entry) Refusal). x >>= (λ es. named (entry_number es name))) at ∙ ap named (sym is)

module _ (numbered : Numbering PlacedFile) (path : List (List ℕ)) where
  -- the parent is by the number to which the names before the last lead
  pub parent_by : (number : ℕ) (es : List Entry) → find_number numbered (front_of path) ≡ Ok number → entries_in (get numbered number) ≡ Ok es → find_parent numbered path ≡ Ok (parent_with number es)
  unfolding find_parent
  parent_by number es led at =
      ap (λ (o : Result ℕ Refusal). o >>= (λ number. entries_in (get numbered number) >>= (λ es. Ok (parent_with number es)))) led
      ∙ ap (λ (o : Result (List Entry) Refusal). o >>= (λ es. Ok (parent_with number es))) at

  pub parent_nowhere : (why : Refusal) → find_number numbered (front_of path) ≡ Err why → find_parent numbered path ≡ Err why
  unfolding find_parent
  parent_nowhere why led = ap (λ (o : Result ℕ Refusal). o >>= (λ number. entries_in (get numbered number) >>= (λ es. Ok (parent_with number es)))) led

  pub parent_none : (number : ℕ) (why : Refusal) → find_number numbered (front_of path) ≡ Ok number → entries_in (get numbered number) ≡ Err why → find_parent numbered path ≡ Err why
  unfolding find_parent
  parent_none number why led at =
      ap (λ (o : Result ℕ Refusal). o >>= (λ number. entries_in (get numbered number) >>= (λ es. Ok (parent_with number es)))) led
      ∙ ap (λ (o : Result (List Entry) Refusal). o >>= (λ es. Ok (parent_with number es))) at

  -- a path that isn't too long leads where its names do
  pub short_path : is_too_long path ≡ false → number_at numbered path ≡ find_number numbered path
  short_path short = ap (λ (b : Bool). refused_if b Enametoolong >>= (λ _. find_number numbered path)) short

module _ {M : Type 0} (history : M → Option History) (old : StoreValue M) (number : ℕ) where
  -- A DIRECTORY'S BYTES are those of its entries
  pub entries_are : (bytes : List ℕ) → OverNow history old (λ s c. HasDirectory old c number bytes)
      → OfTree history old (λ c numbered. (es : List Entry) × Spells bytes es × (entries_in (get numbered number) ≡ Ok es))
  entries_are bytes has h told c lies numbered tree =
      let m = entries_of_bytes old c numbered tree number (state_now h) lies bytes (has h told c lies) in
      (m.0, m.1, ap entries_in m.2)

  -- a file has none
  pub entries_none : OverNow history old (λ s c. HasKind old c number File) → OfTree history old (λ c numbered. HasNoEntries number numbered Enotdir)
  entries_none has h told c lies numbered tree = ap entries_in (leaf_of_kind old c numbered tree number (has h told c lies)).1

  -- A CHILD is by the bytes
  pub child_of_bytes : (mid : StoreValue M) (bytes name : List ℕ) → HasEntries history old mid number bytes → (answer : Option ℕ) → IfSpells bytes (λ es. answer ≡ entry_number es name)
      → OfTree history old (λ c numbered. child_in numbered number name ≡ named answer)
  child_of_bytes mid bytes name entries answer is h told c lies numbered tree =
      let m = entries.are h told c lies numbered tree in
      child_by numbered number name m.0 answer m.2 (is m.0 m.1)

module _ {M : Type 0} (history : M → Option History) (blocks faults write_faults say_faults : M → ℕ) where
  -- WHERE A WALK HAS COME: the names passed lead to a number, from where the others lead on
  pub record Walked (old now : StoreValue M) (path rest : List (List ℕ)) (number : ℕ) : Type 0 where
    pub is : IsNumber old number
    pub leads : OfTree history old (λ c numbered. find_number numbered path ≡ find_on numbered number rest)
    pub reads : ReadsNodes history old now
    pub machine : OnlyReads history blocks faults write_faults say_faults old.log.machine now.log.machine

  -- at the root
  pub walked_start : (old : StoreValue M) (path : List (List ℕ)) (number : ℕ) → number ≡ 1 → IsNumber old number → Walked old old path (drop 0 path) number
  walked_start old path number root is = record {
    is = is;
    leads = λ h told c lies numbered tree. find_first numbered path ∙ ap (λ (n : ℕ). find_on numbered n path) (sym root);
    reads = reads_nothing history old;
    machine = reads_none;
  }

  -- at the end
  pub walked_end : (old now : StoreValue M) (path : List (List ℕ)) (i number : ℕ) → length path ≤ i → Walked old now path (drop i path) number → LeadsTo history old path number
  walked_end old now path i number past walked h told c lies numbered tree =
      walked.leads h told c lies numbered tree ∙ ap (find_on numbered number) (drop_of_length-le path past)

  module _ (old mid new : StoreValue M) (path : List (List ℕ)) (i number : ℕ) (name : List ℕ) (low : i < length path) (none : List ℕ) (name_is : name ≡ get_or path i none) (walked : Walked old mid path (drop i path) number) where
    -- the name comes next
    next : drop i path ≡ name ∷ drop (i + 1) path
    next =
        let more : suc i ≡ i + 1 = omega arith in
        drop-cons path i none low ∙ ap (λ (x : List ℕ). x ∷ drop (suc i) path) (sym name_is) ∙ ap (λ (k : ℕ). name ∷ drop k path) more

    -- a name more
    pub walked_more : (child : ℕ) → IsChild history mid number name child → IsNumber mid child → ReadsNodes history mid new → OnlyReads history blocks faults write_faults say_faults mid.log.machine new.log.machine
        → Walked old new path (drop (i + 1) path) child
    walked_more child is child_is reads machine = record {
      is = number_before history old mid walked.reads child child_is;
      leads = λ h told c lies numbered tree.
          walked.leads h told c lies numbered tree
          ∙ ap (find_on numbered number) next
          ∙ leads_on numbered number name (drop (i + 1) path) child (of_tree_before history old mid walked.reads walked.machine.unchanged (λ c numbered. child_in numbered number name ≡ Ok child) is h told c lies numbered tree);
      reads = reads_both history old mid walked.reads walked.machine.unchanged new reads;
      machine = reads_then walked.machine machine;
    }

    -- or it leads nowhere
    pub walked_stop : (stop : Halt) → Halts history faults mid new (HasNoChild number name) stop → Halts history faults old new (LeadsNowhere path) stop
    walked_stop (halt.Refused why) is = λ h told c lies numbered tree.
        walked.leads h told c lies numbered tree
        ∙ ap (find_on numbered number) next
        ∙ leads_nowhere numbered number name (drop (i + 1) path) why (of_tree_before history old mid walked.reads walked.machine.unchanged (λ c numbered. HasNoChild number name numbered why) is h told c lies numbered tree)
    walked_stop halt.DiskFault is = rose_since _ _ _ walked.machine.faults_most is
    walked_stop halt.Memory is = tt

  -- A PATH WAS WALKED to its end
  module _ (old mid new : StoreValue M) (path : List (List ℕ)) (reads : ReadsNodes history old mid) (machine : OnlyReads history blocks faults write_faults say_faults old.log.machine mid.log.machine) where
    -- to the parent of its last name
    pub parent_found : (parent : ParentFound) → IsNumber old parent.number → LeadsTo history old (front_of path) parent.number → HasEntries history mid new parent.number parent.bytes.items → HasParent history old new path parent
    parent_found parent is led entries = record {
      number = is;
      drafted = entries.drafted;
      is = λ h told c lies numbered tree.
          let m = of_tree_before history old mid reads machine.unchanged (λ c numbered. (es : List Entry) × Spells parent.bytes.items es × (entries_in (get numbered parent.number) ≡ Ok es)) entries.are h told c lies numbered tree in
          (m.0, m.1, parent_by numbered path parent.number m.0 (led h told c lies numbered tree) m.2);
    }

    -- which is none
    pub parent_stop : (number : ℕ) → LeadsTo history old (front_of path) number → (stop : Halt) → Halts history faults mid new (HasNoEntries number) stop → Halts history faults old new (HasNoParent path) stop
    parent_stop number led (halt.Refused why) is = λ h told c lies numbered tree.
        parent_none numbered path number why (led h told c lies numbered tree) (of_tree_before history old mid reads machine.unchanged (λ c numbered. HasNoEntries number numbered why) is h told c lies numbered tree)
    parent_stop number led halt.DiskFault is = rose_since _ _ _ machine.faults_most is
    parent_stop number led halt.Memory is = tt

module _ {M : Type 0} (history : M → Option History) (faults : M → ℕ) (old new : StoreValue M) (path : List (List ℕ)) where
  -- no number is that of the parent where the names before the last lead nowhere
  pub no_parent : (stop : Halt) → Halts history faults old new (LeadsNowhere (front_of path)) stop → Halts history faults old new (HasNoParent path) stop
  no_parent (halt.Refused why) is = λ h told c lies numbered tree. parent_nowhere numbered path why (is h told c lies numbered tree)
  no_parent halt.DiskFault is = is
  no_parent halt.Memory is = tt

module _ {M : Type 0} (history : M → Option History) (faults : M → ℕ) (old mid new : StoreValue M) (reads : ReadsNodes history old mid) (run : Runs (history old.log.machine) (history mid.log.machine) IsUnchanged)
    (path : List (List ℕ)) (number : ℕ) (node : Node) (short : is_too_long path ≡ false) (led : LeadsTo history old path number) (has : OverNow history mid (HasNodeFound mid number node)) where
  -- A PATH LEADS to a file
  pub path_to_file : node.kind ≡ File → FindsPath history faults old new path (found.File number)
  path_to_file kind h told c lies numbered tree = (
    short_path numbered path short ∙ led h told c lies numbered tree,
    of_tree_before history old mid reads run (λ c numbered. (file : PlacedFile) × (get numbered number ≡ Some (Leaf file)))
        (λ h told c lies numbered tree. (let m = file_found mid c numbered tree number (state_now h) node (has h told c lies) kind in (m.0, m.1)))
        h told c lies numbered tree,
  )

  -- or to a directory
  pub path_to_directory : node.kind ≡ Dir → FindsPath history faults old new path (found.Dir number)
  path_to_directory kind h told c lies numbered tree = (
    short_path numbered path short ∙ led h told c lies numbered tree,
    of_tree_before history old mid reads run (λ c numbered. (es : List Entry) × (get numbered number ≡ Some (Directory es)))
        (λ h told c lies numbered tree. (let m = directory_found mid c numbered tree number (state_now h) node (has h told c lies) kind in (m.0, m.1)))
        h told c lies numbered tree,
  )
