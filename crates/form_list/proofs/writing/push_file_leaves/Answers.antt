use Rattle.std.proofs.Common.{◌∙◌, ◌++◌, [], codes}
use Rattle.rosa_nodes.specs.Writing.{leaf, leaf_text}
use Rattle.form_list.proofs.AppendLemmas.{grown, last_grown}
use Rattle.form_list.proofs.writing.push_file_leaves.Goals as goal

pub returns : goal.returns
returns c =
    let file = c.args.file.now in
    let name = leaf_text (leaf (codes "filename") file.filename) in
    let hash = leaf_text (leaf (codes "hash") file.hash) in
    let download = leaf_text (leaf (codes "downloadUrl") file.download) in
    last_grown c.push_leaf-2.new.out.items c.push_leaf-3.new.out.items download c.in_ok-push_leaf-3.ensures
    ∙ (grown c.push_leaf.new.out.items c.push_leaf-2.new.out.items hash (download ++ []) c.in_ok-push_leaf-2.ensures
    ∙ grown c.args.out.now.items c.push_leaf.new.out.items name (hash ++ (download ++ [])) c.in_ok-push_leaf.ensures)
