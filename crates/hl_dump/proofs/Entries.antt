-- Entries one after the other: each is told by its bytes.
use Rattle.std.proofs.Common.{◌≡◌, ◌≢◌, ℕ, List, [], ◌∷◌, ◌++◌, length, take, drop, All, refl, sym, ap, ◌∙◌, arith, append_assoc, length-append}
use Rattle.std.specs.Int.{from_le_bytes, w32}
use Rattle.std.proofs.lemmas.List.{take_at, drop_at}
use Rattle.std.proofs.lemmas.List.Elements.{All-head, All-tail, All-weaker}
use Rattle.std.proofs.lemmas.Nat.{from_le_bytes-to_le_bytes_4}
use Rattle.hl_bytes.specs.Fields.{le32}
use Rattle.hl_tree.specs.declared.node.Node.{Node}
use Rattle.hl_tree.specs.declared.node.Node.TheVariants.{Dir, File}
use Rattle.hl_tree.specs.Names.{IsName, AreNames, path_length}
use Rattle.hl_dump.specs.Dumps.{path_bytes, node_bytes, entry_bytes}
use Rattle.hl_dump.specs.Reading.{Row, IsPart, IsEntry}

pub length-path_bytes : (p : List (List ℕ)) → length (path_bytes p) ≡ path_length p
length-path_bytes [] = refl
length-path_bytes (n ∷ ns) = let rest = length-path_bytes ns in omega (arith, length-append n (path_bytes ns))

no_slash_first : (b : ℕ) (xs : List ℕ) (ns : List (List ℕ)) → b ≢ 47 → path_bytes ns ≡ b ∷ xs → ⊥
no_slash_first b xs [] other h = absurd cc
no_slash_first b xs (n ∷ ns) other h = let same : b ≡ 47 = cc in other same

-- where a name ends is told by what stands behind it: a slash or nothing
name_ends : (n m : List ℕ) (ns ms : List (List ℕ)) → IsPart n → IsPart m → n ++ path_bytes ns ≡ m ++ path_bytes ms → (n ≡ m) × (path_bytes ns ≡ path_bytes ms)
name_ends [] [] ns ms a b h = (refl, h)
name_ends [] (y ∷ m) ns ms a b h = absurd (no_slash_first y (m ++ path_bytes ms) ns (All-head (λ b. b ≢ 47) y m b) h)
name_ends (x ∷ n) [] ns ms a b h = absurd (no_slash_first x (n ++ path_bytes ns) ms (All-head (λ b. b ≢ 47) x n a) (sym h))
name_ends (x ∷ n) (y ∷ m) ns ms a b h =
    let first : x ≡ y = cc in
    let s = name_ends n m ns ms (All-tail (λ b. b ≢ 47) x n a) (All-tail (λ b. b ≢ 47) y m b) (ap (drop 1) h) in
    ((λ i. first i ∷ s.0 i), s.1)

-- parts between slashes are told by their bytes
pub path_once : (p q : List (List ℕ)) → All IsPart p → All IsPart q → path_bytes p ≡ path_bytes q → p ≡ q
path_once [] [] a b h = refl
path_once [] (m ∷ ms) a b h = absurd cc
path_once (n ∷ ns) [] a b h = absurd cc
path_once (n ∷ ns) (m ∷ ms) a b h =
    let s = name_ends n m ns ms (All-head IsPart n ns a) (All-head IsPart m ms b) (ap (drop 1) h) in
    let rest : ns ≡ ms = path_once ns ms (All-tail IsPart n ns a) (All-tail IsPart m ms b) s.1 in
    λ i. s.0 i ∷ rest i

pub name_is_part : (n : List ℕ) → IsName n → IsPart n
name_is_part n is = All-weaker (λ b. (b ≢ 0) × (b ≢ 47)) (λ b. b ≢ 47) (λ b h. h.1) n is.bytes

pub names_are_parts : (p : List (List ℕ)) → AreNames p → All IsPart p
names_are_parts p are = All-weaker IsName IsPart name_is_part p are

-- a path of known length, in front of other bytes
pub path_in_front : (p q : List (List ℕ)) (x y : List ℕ) → AreNames p → AreNames q → path_length p ≡ path_length q → path_bytes p ++ x ≡ path_bytes q ++ y → (p ≡ q) × (x ≡ y)
path_in_front p q x y a b size h =
    let same_size : length (path_bytes q) ≡ length (path_bytes p) = length-path_bytes q ∙ sym size ∙ sym (length-path_bytes p) in
    let front : path_bytes p ≡ path_bytes q = sym (take_at (path_bytes p) x (length (path_bytes p)) refl) ∙ ap (take (length (path_bytes p))) h ∙ take_at (path_bytes q) y (length (path_bytes p)) same_size in
    let back : x ≡ y = sym (drop_at (path_bytes p) x (length (path_bytes p)) refl) ∙ ap (drop (length (path_bytes p))) h ∙ drop_at (path_bytes q) y (length (path_bytes p)) same_size in
    (path_once p q (names_are_parts p a) (names_are_parts q b) front, back)

regroup : (a b c d : List ℕ) → a ++ (b ++ (c ++ d)) ≡ ((a ++ b) ++ c) ++ d
regroup a b c d = sym (let e : ((a ++ b) ++ c) ++ d ≡ a ++ (b ++ (c ++ d)) = simp append_assoc in e)

same_node : (p q : List (List ℕ)) (a b : Node (List ℕ)) (x y : List ℕ) → IsEntry (p, a) → IsEntry (q, b) → node_bytes p a ++ x ≡ node_bytes q b ++ y → (p ≡ q) × (a ≡ b) × (x ≡ y)
unfolding le32
same_node p q Dir Dir x y room_p room_q h =
    let size : path_length p ≡ path_length q = sym (from_le_bytes-to_le_bytes_4 (path_length p) room_p.path) ∙ ap (λ (l : List ℕ). from_le_bytes w32 (take 4 (drop 1 l))) h ∙ from_le_bytes-to_le_bytes_4 (path_length q) room_q.path in
    let s = path_in_front p q x y room_p.named room_q.named size (ap (drop 5) h) in
    (s.0, refl, s.1)
same_node p q Dir (File b) x y room_p room_q h = absurd cc
same_node p q (File a) Dir x y room_p room_q h = absurd cc
same_node p q (File a) (File b) x y room_p room_q h =
    let size : path_length p ≡ path_length q = sym (from_le_bytes-to_le_bytes_4 (path_length p) room_p.path) ∙ ap (λ (l : List ℕ). from_le_bytes w32 (take 4 (drop 1 l))) h ∙ from_le_bytes-to_le_bytes_4 (path_length q) room_q.path in
    let rest : path_bytes p ++ (le32 (length a) ++ (a ++ x)) ≡ path_bytes q ++ (le32 (length b) ++ (b ++ y)) = regroup (path_bytes p) (le32 (length a)) a x ∙ ap (drop 5) h ∙ sym (regroup (path_bytes q) (le32 (length b)) b y) in
    let s = path_in_front p q (le32 (length a) ++ (a ++ x)) (le32 (length b) ++ (b ++ y)) room_p.named room_q.named size rest in
    let count : length a ≡ length b = sym (from_le_bytes-to_le_bytes_4 (length a) room_p.content) ∙ ap (λ (l : List ℕ). from_le_bytes w32 (take 4 l)) s.1 ∙ from_le_bytes-to_le_bytes_4 (length b) room_q.content in
    let bytes : a ++ x ≡ b ++ y = ap (drop 4) s.1 in
    let content : a ≡ b = sym (take_at a x (length a) refl) ∙ ap (take (length a)) bytes ∙ take_at b y (length a) (sym count) in
    let after : x ≡ y = sym (drop_at a x (length a) refl) ∙ ap (drop (length a)) bytes ∙ drop_at b y (length a) (sym count) in
    (s.0, ap (λ (l : List ℕ). File l) content, after)

pub entry_is : (e : Row) → e.0 ≢ [] → entry_bytes e ≡ node_bytes e.0 e.1
entry_is ([], node) some = absurd (some refl)
entry_is (name ∷ names, node) some = refl

-- Two entries with the same bytes in front are one, and so is what stands behind them.
pub same_entry : (e f : Row) (x y : List ℕ) → IsEntry e → IsEntry f → entry_bytes e ++ x ≡ entry_bytes f ++ y → (e ≡ f) × (x ≡ y)
same_entry e f x y room_e room_f h =
    let s = same_node e.0 f.0 e.1 f.1 x y room_e room_f (ap (λ (l : List ℕ). l ++ x) (sym (entry_is e room_e.some)) ∙ h ∙ ap (λ (l : List ℕ). l ++ y) (entry_is f room_f.some)) in
    ((λ i. (s.0 i, s.1 i)), s.2)
