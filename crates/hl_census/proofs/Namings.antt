-- What is named of table blocks and of what was found, block by block.
use Rattle.std.proofs.Common.{◌≡◌, ◌≢◌, ⊎_elim, ℕ, zero, suc, ◌<◌, ◌++◌, Bool, true, false, cond, List, [], ◌∷◌, length, map, refl, sym, ◌∙◌, ap, subst, arith}
use Rattle.std.specs.Prelude.{AllPairs, Contains, filter, slice_index, Option, Some, None}
use Rattle.std.specs.List.{flat_map, slice_index_or}
use Rattle.std.proofs.lemmas.List.{map-append}
use Rattle.std.proofs.lemmas.List.Elements.{Contains-append_left, Contains-append_right}
use Rattle.hl_nodes.specs.Live.{LiveBlock, NodeBlock}
use Rattle.hl_nodes.specs.Live.LiveBlock.{OfNode, Table}
use Rattle.hl_nodes.specs.Live.NodeBlock.{Content, Own, Pointers}
use Rattle.hl_nodes.proofs.Membership.{first_or_later, head_in, tail_in, in_append}
use Rattle.hl_survey.specs.declared.found.FoundInode.{FoundInode}
use Rattle.hl_census.specs.Naming.{Naming, found_addresses, is_address, named_addresses}
use Rattle.hl_census.proofs.Pairs.{pairs_append, pairs_cons, pairs_nil}

abbrev pub naming : LiveBlock → ℕ → Naming
naming block address = record { block = block; address = address }

abbrev pub address_of : Naming → ℕ
address_of n = n.address

-- of two blocks
abbrev pub Apart : Naming → Naming → Type 0
Apart one other = one.block ≢ other.block

-- ADDRESSES IN A ROW, of which some are kept
abbrev pub numbered : (ℕ → LiveBlock) → (ℕ → Bool) → List ℕ → List Naming
numbered block keep [] = []
numbered block keep (a ∷ row) = cond (keep a) (naming (block 0) a ∷ numbered (λ i. block (suc i)) keep row) (numbered (λ i. block (suc i)) keep row)

pub numbered_are : (block : ℕ → LiveBlock) (keep : ℕ → Bool) (row : List ℕ) → map address_of (numbered block keep row) ≡ filter keep row
numbered_are block keep [] = refl
numbered_are block keep (a ∷ row) = by (numbered_are (λ i. block (suc i)) keep row) (keep a)
  where
    by : map address_of (numbered (λ i. block (suc i)) keep row) ≡ filter keep row → (b : Bool)
        → map address_of (cond b (naming (block 0) a ∷ numbered (λ i. block (suc i)) keep row) (numbered (λ i. block (suc i)) keep row)) ≡ cond b (a ∷ filter keep row) (filter keep row)
    by rest true = ap (λ (xs : List ℕ). a ∷ xs) rest
    by rest false = rest

-- one of them
abbrev pub IsNumbered : (ℕ → LiveBlock) → (ℕ → Bool) → List ℕ → Naming → Type 0
IsNumbered block keep row n = (i : ℕ) × (i < length row) × (n ≡ naming (block i) (slice_index row i)) × (keep (slice_index row i) ≡ true)

pub numbered_to : (block : ℕ → LiveBlock) (keep : ℕ → Bool) (row : List ℕ) (n : Naming) → Contains (numbered block keep row) n → IsNumbered block keep row n
numbered_to block keep [] n c = absurd (let lt = c.1 in omega arith)
numbered_to block keep (a ∷ row) n c = by (numbered_to (λ i. block (suc i)) keep row n) (keep a) refl c
  where
    later : IsNumbered (λ i. block (suc i)) keep row n → IsNumbered block keep (a ∷ row) n
    later is = (let lt = is.1 in (suc is.0, omega arith, is.2, is.3))

    by : (Contains (numbered (λ i. block (suc i)) keep row) n → IsNumbered (λ i. block (suc i)) keep row n) → (b : Bool) → keep a ≡ b
        → Contains (cond b (naming (block 0) a ∷ numbered (λ i. block (suc i)) keep row) (numbered (λ i. block (suc i)) keep row)) n → IsNumbered block keep (a ∷ row) n
    by rest true e c = ⊎_elim (λ same. (0, omega arith, sym same, e)) (λ more. later (rest more)) (first_or_later (naming (block 0) a) n (numbered (λ i. block (suc i)) keep row) c)
    by rest false e c = later (rest c)

pub numbered_from : (block : ℕ → LiveBlock) (keep : ℕ → Bool) (row : List ℕ) (i : ℕ) → i < length row → keep (slice_index row i) ≡ true → Contains (numbered block keep row) (naming (block i) (slice_index row i))
numbered_from block keep [] i lt e = absurd (omega arith)
numbered_from block keep (a ∷ row) zero lt e = subst
    (λ (b : Bool). Contains (cond b (naming (block 0) a ∷ numbered (λ i. block (suc i)) keep row) (numbered (λ i. block (suc i)) keep row)) (naming (block 0) a)) (sym e)
    (head_in (naming (block 0) a) (numbered (λ i. block (suc i)) keep row))
numbered_from block keep (a ∷ row) (suc i) lt e = by (numbered_from (λ i. block (suc i)) keep row i (omega arith) e) (keep a)
  where
    by : Contains (numbered (λ i. block (suc i)) keep row) (naming (block (suc i)) (slice_index row i)) → (b : Bool)
        → Contains (cond b (naming (block 0) a ∷ numbered (λ i. block (suc i)) keep row) (numbered (λ i. block (suc i)) keep row)) (naming (block (suc i)) (slice_index row i))
    by there true = tail_in (naming (block 0) a) (naming (block (suc i)) (slice_index row i)) (numbered (λ i. block (suc i)) keep row) there
    by there false = there

pub numbered_once : (block : ℕ → LiveBlock) (keep : ℕ → Bool) → ((i j : ℕ) → block i ≡ block j → i ≡ j) → (row : List ℕ) → AllPairs Apart (numbered block keep row)
numbered_once block keep one [] = pairs_nil Apart
numbered_once block keep one (a ∷ row) = by (numbered_once (λ i. block (suc i)) keep (λ i j e. (let s : suc i ≡ suc j = one (suc i) (suc j) e in omega arith)) row) (keep a)
  where
    first : (n : Naming) → Contains (numbered (λ i. block (suc i)) keep row) n → Apart (naming (block 0) a) n
    first n c e =
        let is = numbered_to (λ i. block (suc i)) keep row n c in
        let s : 0 ≡ suc is.0 = one 0 (suc is.0) (e ∙ ap (λ (m : Naming). m.block) is.2) in
        omega arith

    by : AllPairs Apart (numbered (λ i. block (suc i)) keep row) → (b : Bool) → AllPairs Apart (cond b (naming (block 0) a ∷ numbered (λ i. block (suc i)) keep row) (numbered (λ i. block (suc i)) keep row))
    by more true = pairs_cons Apart (naming (block 0) a) (numbered (λ i. block (suc i)) keep row) first more
    by more false = more

-- WHAT IS NAMED NUMBER BY NUMBER
abbrev pub collected : (ℕ → Option FoundInode → List Naming) → List (Option FoundInode) → List Naming
collected f [] = []
collected f (x ∷ xs) = f 0 x ++ collected (λ i. f (suc i)) xs

pub collected_are : (f : ℕ → Option FoundInode → List Naming) (addresses : Option FoundInode → List ℕ) → ((i : ℕ) (x : Option FoundInode) → map address_of (f i x) ≡ addresses x)
    → (xs : List (Option FoundInode)) → map address_of (collected f xs) ≡ flat_map addresses xs
collected_are f addresses are [] = refl
collected_are f addresses are (x ∷ xs) =
    map-append address_of (f 0 x) (collected (λ i. f (suc i)) xs)
    ∙ ap (λ (l : List ℕ). l ++ map address_of (collected (λ i. f (suc i)) xs)) (are 0 x)
    ∙ ap (λ (l : List ℕ). addresses x ++ l) (collected_are (λ i. f (suc i)) addresses (λ i y. are (suc i) y) xs)

pub collected_to : (f : ℕ → Option FoundInode → List Naming) (xs : List (Option FoundInode)) (n : Naming) → Contains (collected f xs) n → (i : ℕ) × (i < length xs) × Contains (f i (slice_index_or xs i None)) n
collected_to f [] n c = absurd (let lt = c.1 in omega arith)
collected_to f (x ∷ xs) n c = ⊎_elim
    (λ here. (0, omega arith, here))
    (λ there. (let r = collected_to (λ i. f (suc i)) xs n there in let lt = r.1 in (suc r.0, omega arith, r.2)))
    (in_append (f 0 x) (collected (λ i. f (suc i)) xs) n c)

pub collected_from : (f : ℕ → Option FoundInode → List Naming) (xs : List (Option FoundInode)) (i : ℕ) (n : Naming) → i < length xs → Contains (f i (slice_index_or xs i None)) n → Contains (collected f xs) n
collected_from f [] i n lt c = absurd (omega arith)
collected_from f (x ∷ xs) zero n lt c = Contains-append_left (f 0 x) (collected (λ i. f (suc i)) xs) n c
collected_from f (x ∷ xs) (suc i) n lt c = Contains-append_right (f 0 x) (collected (λ i. f (suc i)) xs) n (collected_from (λ i. f (suc i)) xs i n (omega arith) c)

pub collected_once : (f : ℕ → Option FoundInode → List Naming) → ((i : ℕ) (x : Option FoundInode) → AllPairs Apart (f i x))
    → ((i j : ℕ) (x y : Option FoundInode) (m n : Naming) → i < j → Contains (f i x) m → Contains (f j y) n → Apart m n)
    → (xs : List (Option FoundInode)) → AllPairs Apart (collected f xs)
collected_once f each cross [] = pairs_nil Apart
collected_once f each cross (x ∷ xs) = pairs_append Apart (f 0 x) (collected (λ i. f (suc i)) xs) (each 0 x)
    (collected_once (λ i. f (suc i)) (λ i y. each (suc i) y) (λ i j y z m n lt l r. cross (suc i) (suc j) y z m n (omega arith) l r) xs)
    (λ m n l r. (let at = collected_to (λ i. f (suc i)) xs n r in cross 0 (suc at.0) x (slice_index_or xs at.0 None) m n (omega arith) l at.2))

-- WHAT IS NAMED OF AN INODE: its own block, and then its pointer block and its contents, where they are anywhere
abbrev pub behind : ℕ → NodeBlock
behind zero = Pointers
behind (suc i) = Content i

behind_one : (i j : ℕ) → behind i ≡ behind j → i ≡ j
behind_one zero zero e = refl
behind_one zero (suc j) e = absurd cc
behind_one (suc i) zero e = absurd cc
behind_one (suc i) (suc j) e = (let s : i ≡ j = cc in ap suc s)

own_apart : (ino i : ℕ) → OfNode ino Own ≡ OfNode ino (behind i) → ⊥
own_apart ino zero e = cc
own_apart ino (suc i) e = cc

abbrev pub far_block : ℕ → ℕ → LiveBlock
far_block ino i = OfNode ino (behind i)

abbrev pub inode_namings : ℕ → FoundInode → List Naming
inode_namings ino f = naming (OfNode ino Own) f.address ∷ numbered (far_block ino) is_address (f.inode.single ∷ f.pointers.items)

abbrev pub found_namings : ℕ → Option FoundInode → List Naming
found_namings ino None = []
found_namings ino (Some f) = inode_namings ino f

found_are : (ino : ℕ) (x : Option FoundInode) → map address_of (found_namings ino x) ≡ found_addresses x
found_are ino None = refl
found_are ino (Some f) = ap (λ (l : List ℕ). f.address ∷ l) (numbered_are (far_block ino) is_address (f.inode.single ∷ f.pointers.items))

-- each is of the number
abbrev IsOf : ℕ → Naming → Type 0
IsOf ino n = (b : NodeBlock) × (n.block ≡ OfNode ino b)

found_of : (ino : ℕ) (x : Option FoundInode) (n : Naming) → Contains (found_namings ino x) n → IsOf ino n
found_of ino None n c = absurd (let lt = c.1 in omega arith)
found_of ino (Some f) n c = ⊎_elim
    (λ same. (Own, ap (λ (m : Naming). m.block) (sym same)))
    (λ more. (let is = numbered_to (far_block ino) is_address (f.inode.single ∷ f.pointers.items) n more in (behind is.0, ap (λ (m : Naming). m.block) is.2)))
    (first_or_later (naming (OfNode ino Own) f.address) n (numbered (far_block ino) is_address (f.inode.single ∷ f.pointers.items)) c)

far_one : (ino i j : ℕ) → far_block ino i ≡ far_block ino j → i ≡ j
far_one ino i j e = (let b : behind i ≡ behind j = cc in behind_one i j b)

found_once : (ino : ℕ) (x : Option FoundInode) → AllPairs Apart (found_namings ino x)
found_once ino None = pairs_nil Apart
found_once ino (Some f) = pairs_cons Apart (naming (OfNode ino Own) f.address) (numbered (far_block ino) is_address (f.inode.single ∷ f.pointers.items))
    (λ n c e. (let is = numbered_to (far_block ino) is_address (f.inode.single ∷ f.pointers.items) n c in own_apart ino is.0 (e ∙ ap (λ (m : Naming). m.block) is.2)))
    (numbered_once (far_block ino) is_address (far_one ino) (f.inode.single ∷ f.pointers.items))

found_apart : (i j : ℕ) (x y : Option FoundInode) (m n : Naming) → i < j → Contains (found_namings i x) m → Contains (found_namings j y) n → Apart m n
found_apart i j x y m n lt l r e =
    let one = found_of i x m l in
    let other = found_of j y n r in
    let same : OfNode i one.0 ≡ OfNode j other.0 = sym one.1 ∙ e ∙ other.1 in
    let number : i ≡ j = cc in
    omega arith

-- ALL THAT IS NAMED
abbrev pub each_kept : ℕ → Bool
each_kept a = true

all_kept : (row : List ℕ) → filter each_kept row ≡ row
all_kept [] = refl
all_kept (a ∷ row) = ap (λ (l : List ℕ). a ∷ l) (all_kept row)

abbrev pub namings : List ℕ → List (Option FoundInode) → List Naming
namings tables found = numbered Table each_kept tables ++ collected found_namings found

pub namings_are : (tables : List ℕ) (found : List (Option FoundInode)) → named_addresses tables found ≡ map address_of (namings tables found)
namings_are tables found = sym (
    map-append address_of (numbered Table each_kept tables) (collected found_namings found)
    ∙ ap (λ (l : List ℕ). l ++ map address_of (collected found_namings found)) (numbered_are Table each_kept tables ∙ all_kept tables)
    ∙ ap (λ (l : List ℕ). tables ++ l) (collected_are found_namings found_addresses found_are found))

table_one : (i j : ℕ) → Table i ≡ Table j → i ≡ j
table_one i j e = cc

table_apart : (found : List (Option FoundInode)) (tables : List ℕ) (m n : Naming) → Contains (numbered Table each_kept tables) m → Contains (collected found_namings found) n → Apart m n
table_apart found tables m n l r e =
    let one = numbered_to Table each_kept tables m l in
    let at = collected_to found_namings found n r in
    let other = found_of at.0 (slice_index_or found at.0 None) n at.2 in
    let same : Table one.0 ≡ OfNode at.0 other.0 = sym (ap (λ (k : Naming). k.block) one.2) ∙ e ∙ other.1 in
    cc

pub namings_once : (tables : List ℕ) (found : List (Option FoundInode)) → AllPairs Apart (namings tables found)
namings_once tables found = pairs_append Apart (numbered Table each_kept tables) (collected found_namings found)
    (numbered_once Table each_kept table_one tables) (collected_once found_namings found_once found_apart found) (table_apart found tables)
