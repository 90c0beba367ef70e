use Rattle.std.proofs.Common.{◌≡◌, ◌∙◌, Option, length, ap, sym, subst, rules}
use Rattle.std.proofs.lemmas.Result.{err_from_is_err_and}
use Rattle.history.specs.Cell.{Cell, picked}
use Rattle.milestone.specs.OneCell.{HoldsPairIn}
use Rattle.milestone.specs.ReadCells.{pair_of}
use Rattle.milestone.proofs.CallerLemmas.{one_pair}
use Rattle.recovery.specs.Shape.{cells_place}
use Rattle.recovery.specs.Cells.{IsCellsOf}
use Rattle.recovery.specs.steps.Reading.{IsDocumentRead}
use Rattle.recovery.proofs.Documents.{held-pair}
use Rattle.recovery.proofs.reading.documents.ReadDocuments.read_next.Goals as goal

pub returns-in_err-cells-clause-damaged : goal.returns-in_err-cells-clause-damaged
returns-in_err-cells-clause-damaged g c =
    let p = err_from_is_err_and c.from_residual.result c.from_residual.ensures.1 in
    let shape = c.args.shape.now in
    let number : c.len-number.result ≡ length c.args.self.now.cells.items = search rules in
    rw p.1 (λ is honest pair holds after read.
    c.in_err-cells.ensures.damaged (sym p.2 ∙ is) honest pair
    (subst (λ n. HoldsPairIn c.args.format (cells_place shape n) shape.cell n (g.D.Disk.seen c.args.disk.now) pair) (sym number) holds))

pub returns-in_err-read_document-clause-damaged : goal.returns-in_err-read_document-clause-damaged
returns-in_err-read_document-clause-damaged g c =
    let p = err_from_is_err_and c.from_residual-in_err-read_document.result c.from_residual-in_err-read_document.ensures.1 in
    let shape = c.args.shape.now in
    let content = g.D.Disk.seen c.args.disk.now in
    let known = c.in_ok-cells.field-0 in
    let number : c.len-number.result ≡ length c.args.self.now.cells.items = search rules in
    let chosen : c.pick_one.result ≡ picked c.args.pick (pair_of known) = c.pick_one.ensures in
    rw p.1 (λ is honest pair holds after read.
    let fits = c.in_ok-cells.ensures.found honest in
    let here = subst (λ n. HoldsPairIn c.args.format (cells_place shape n) shape.cell n content pair) (sym number) holds in
    let same : pair ≡ pair_of known =
    one_pair c.args.format (cells_place shape c.len-number.result) shape.cell c.len-number.result content pair (pair_of known) here
    (held-pair c.args.format content shape c.len-number.result known.cells (pair_of known) c.in_ok-cells.ensures.cells fits) in
    c.in_err-read_document.ensures.damaged (sym p.2 ∙ is) after
    (subst (λ (o : Option Cell). IsDocumentRead c.len-number.result o c.args.entries.items c.args.self.now.state after) (ap (picked c.args.pick) same ∙ sym chosen)
    (subst (λ n. IsDocumentRead n (picked c.args.pick pair) c.args.entries.items c.args.self.now.state after) (sym number) read)))

pub returns-clause-next : goal.returns-clause-next
returns-clause-next g c =
    let shape = c.args.shape.now in
    let known = c.in_ok-cells.field-0 in
    let number : c.len-number.result ≡ length c.args.self.now.cells.items = search rules in
    let chosen : c.pick_one.result ≡ picked c.args.pick (pair_of known) = c.pick_one.ensures in
    record {
      pair = pair_of known;
      cells = known.cells;
      is = c.in_ok-push.ensures.items;
      of = subst (λ n. IsCellsOf shape n known.cells) number c.in_ok-cells.ensures.cells;
      fits = λ honest. c.in_ok-cells.ensures.found honest;
      read = subst (λ n. IsDocumentRead n (picked c.args.pick (pair_of known)) c.args.entries.items c.args.self.now.state c.read_document.new.state) number
          (subst (λ (o : Option Cell). IsDocumentRead c.len-number.result o c.args.entries.items c.args.self.now.state c.read_document.new.state) chosen c.in_ok-read_document.ensures.read);
    }
