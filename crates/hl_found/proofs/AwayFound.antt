-- Away blocks of nodes that were found, node by node.
use Rattle.std.proofs.Common.{◌≡◌, ◌⊎◌, inl, inr, ℕ, ◌<◌, sym, ap, ◌∙◌, subst, arith}
use Rattle.std.specs.Prelude.{Some}
use Rattle.std.specs.FinMap.{get}
use Rattle.std.proofs.lemmas.Bool.{cases_order}
use Rattle.hl_placed.specs.Blocks.{Away, file_block}
use Rattle.hl_paths.specs.Nodes.{FlatNode, Nodes}
use Rattle.hl_nodes.specs.Sound.{AwayOnce}
use Rattle.hl_found.specs.Away.{IsApart}

module _ (nodes : Nodes) where
  -- no two blocks are one where each node is apart from those before it
  pub once_by_nodes : ((m : ℕ) → IsApart nodes m) → AwayOnce nodes
  once_by_nodes apart m n i j serial position x y ex ey ax ay = by (cases_order m n)
    where
      within : (j : ℕ) → file_block x.content j ≡ Away serial position → i ≡ j
      within j aj = of (cases_order i j)
        where
          of : (i ≡ j) ⊎ ((i < j) ⊎ (j < i)) → i ≡ j
          of (inl e) = e
          of (inr (inl lt)) = absurd ((apart m x ex).0 i (serial, position, ax, (j, omega arith, aj)))
          of (inr (inr lt)) = absurd ((apart m x ex).0 j (serial, position, aj, (i, omega arith, ax)))

      by : (m ≡ n) ⊎ ((m < n) ⊎ (n < m)) → (m ≡ n) × (i ≡ j)
      by (inl e) =
          let both : Some x ≡ Some y = sym ex ∙ ap (get nodes) e ∙ ey in
          let same : y ≡ x = cc in
          (e, within j (subst (λ (z : FlatNode). file_block z.content j ≡ Away serial position) same ay))
      by (inr (inl lt)) = absurd ((apart n y ey).1 m lt x ex j (serial, position, ay, (i, omega arith, ax)))
      by (inr (inr lt)) = absurd ((apart m x ex).1 n lt y ey i (serial, position, ax, (j, omega arith, ay)))

  pub nodes_apart : AwayOnce nodes → (m : ℕ) → IsApart nodes m
  nodes_apart once m x ex = (
    λ i (serial, position, e, (j, le, f)). (let r = once m m i j serial position x x ex ex e f in let same = r.1 in omega arith),
    λ n lt other eo i (serial, position, e, (j, le, f)). (let r = once m n i j serial position x other ex eo e f in let same = r.0 in omega arith),
  )
