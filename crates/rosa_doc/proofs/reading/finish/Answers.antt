use Rattle.std.proofs.Common.{sym, subst}
use Rattle.rosa_doc.specs.declared.reader.Ending.{Ending}
use Rattle.rosa_doc.specs.declared.refusal.DocRefused.{DocRefused}
use Rattle.rosa_doc.specs.Documents.{body_of}
use Rattle.rosa_doc.specs.Refusals.{Refuses, IsText}
use Rattle.rosa_doc.specs.Reading.{Stopped}
use Rattle.rosa_doc.proofs.Answering.{stopped_fits, deep_is_refused, stuck_is_refused, end_is_refused, ended_answers, empty_is_nil, not_empty}
use Rattle.rosa_doc.proofs.reading.finish.Goals as goal

pub place_before-at-requires : goal.place_before-at-requires
place_before-at-requires c = stopped_fits c.args.text.now c.args.ending c.args.rest.now c.utf8.text c.requires.stopped

pub returns-in-Deep-clause-refused : goal.returns-in-Deep-clause-refused
returns-in-Deep-clause-refused c =
    let h = subst (λ (e : Ending). Stopped (body_of c.args.text.now) e c.args.rest.now) c.in-Deep.is c.requires.stopped in
    let text : IsText c.args.text.now = (c.requires.long, c.utf8.text) in
    deep_is_refused c.args.text.now c.args.rest.now c.place_before-at.result text h c.place_before-at.ensures

pub returns-in-Stuck-clause-refused : goal.returns-in-Stuck-clause-refused
returns-in-Stuck-clause-refused c =
    let h = subst (λ (e : Ending). Stopped (body_of c.args.text.now) e c.args.rest.now) c.in-Stuck.is c.requires.stopped in
    let text : IsText c.args.text.now = (c.requires.long, c.utf8.text) in
    subst (λ (r : DocRefused). Refuses c.args.text.now r) (sym c.refusal_before.ensures) (stuck_is_refused c.args.text.now c.args.rest.now c.place_before-at.result text h c.place_before-at.ensures)

pub returns-then-is_empty-clause-found : goal.returns-then-is_empty-clause-found
returns-then-is_empty-clause-found c =
    let h = subst (λ (e : Ending). Stopped (body_of c.args.text.now) e c.args.rest.now) c.in-End.is c.requires.stopped in
    let text : IsText c.args.text.now = (c.requires.long, c.utf8.text) in
    let nil = empty_is_nil c.args.rest.now c.is_empty.result c.is_empty.ensures c.if-is_empty.true in
    let a = ended_answers c.args.text.now c.place_before-at.result c.in-End.progress c.args.rest.now text h c.place_before-at.ensures nil in
    rw (c.ended.ensures) (a.0)

pub returns-then-is_empty-clause-refused : goal.returns-then-is_empty-clause-refused
returns-then-is_empty-clause-refused c =
    let h = subst (λ (e : Ending). Stopped (body_of c.args.text.now) e c.args.rest.now) c.in-End.is c.requires.stopped in
    let text : IsText c.args.text.now = (c.requires.long, c.utf8.text) in
    let nil = empty_is_nil c.args.rest.now c.is_empty.result c.is_empty.ensures c.if-is_empty.true in
    let a = ended_answers c.args.text.now c.place_before-at.result c.in-End.progress c.args.rest.now text h c.place_before-at.ensures nil in
    rw (c.ended.ensures) (a.1)

pub returns-else-is_empty-clause-refused : goal.returns-else-is_empty-clause-refused
returns-else-is_empty-clause-refused c =
    let h = subst (λ (e : Ending). Stopped (body_of c.args.text.now) e c.args.rest.now) c.in-End.is c.requires.stopped in
    let text : IsText c.args.text.now = (c.requires.long, c.utf8.text) in
    let long = not_empty c.args.rest.now c.is_empty.result c.is_empty.ensures c.if-is_empty.false in
    subst (λ (r : DocRefused). Refuses c.args.text.now r) (sym c.refusal_before-else-is_empty.ensures) (end_is_refused c.args.text.now c.args.rest.now c.place_before-at.result c.in-End.progress text h c.place_before-at.ensures long)
