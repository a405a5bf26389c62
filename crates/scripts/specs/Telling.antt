-- The steps that were taken so far, told from what is open: a writer's state and its steps are one and the same.
use Rattle.std.specs.Prelude.{List, [], ◌∷◌, ◌++◌, Bool, true, false}
use Rattle.std.proofs.Math.Option.{none, some}
use Rattle.scripts.specs.Script.{Join, spaced, commas, Nodes, no_nodes, node, Node, lone, blocked, spaced_join, comma_join, Header, given, written, Entries, no_entries, entry, Around, root, in_block, in_join, Open, in_fragment, in_anchor, between, begun}
use Rattle.scripts.specs.Steps.{Step, open_anchor, open_block, close_block, open_fragment, close_fragment, begin_join, next_entry, end_space_join, end_comma_join}
use Rattle.scripts.specs.ReadOff.{run_steps, leaf_steps}

-- an entry, of a block (true) or of a join (false)
unfoldable pub told_entry : Bool → List Step → List Step
told_entry true xs = open_fragment ∷ (xs ++ (close_fragment ∷ []))
told_entry false xs = next_entry ∷ xs

unfoldable mutual
  pub told_nodes : Nodes → List Step
  told_nodes no_nodes = []
  told_nodes (node n x) = told_nodes n ++ told_node x

  pub told_node : Node → List Step
  told_node (lone l) = leaf_steps l []
  told_node (blocked k es) = open_block k ∷ (told_entries es true ++ (close_block ∷ []))
  told_node (spaced_join h es) = told_header spaced h ++ (told_entries es false ++ (end_space_join ∷ []))
  told_node (comma_join p es s) = told_header commas p ++ (told_entries es false ++ (end_comma_join s ∷ []))

  -- a header that is given comes with the join's beginning, another before it
  pub told_header : Join → Header → List Step
  told_header j (given r) = begin_join j (some r) ∷ []
  told_header j (written x) = told_node x ++ (begin_join j none ∷ [])

  pub told_entries : Entries → Bool → List Step
  told_entries no_entries b = []
  told_entries (entry es n) b = told_entries es b ++ told_entry b (told_nodes n)

unfoldable pub told_around : Around → List Step
told_around root = []
told_around (in_block a n k es) = told_around a ++ (told_nodes n ++ (open_block k ∷ (told_entries es true ++ (open_fragment ∷ []))))
told_around (in_join a n j h es) = told_around a ++ (told_nodes n ++ (told_header j h ++ (told_entries es false ++ (next_entry ∷ []))))

unfoldable pub told : Open → List Step
told (in_fragment a n) = told_around a ++ told_nodes n
told (in_anchor a n d v rs) = told_around a ++ (told_nodes n ++ (open_anchor d v ∷ run_steps rs []))
told (between a n k es) = told_around a ++ (told_nodes n ++ (open_block k ∷ told_entries es true))
told (begun a n j h) = told_around a ++ (told_nodes n ++ told_header j h)
