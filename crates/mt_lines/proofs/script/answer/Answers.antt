use Rattle.std.proofs.Common.{◌≡◌, false, Bool, sym, subst, ◌∙◌, string_bytes, rules, tests}
use Rattle.mt_lines.specs.{Lines.whole_line, Scripts.{is_silent, Answers}, Turns.{meaning_in, AnswersFront}}
use Rattle.mt_lines.proofs.EndLemmas.{text_written}
use Rattle.mt_rows.specs.Rows.{Bytes}
use Rattle.mt_lines.proofs.script.answer.Goals as goal

pub returns-clause-answered : goal.returns-clause-answered
returns-clause-answered g c =
    let silent : is_silent c.args.line.now.bytes ≡ false = sym c.is_silent.ensures ∙ c.if-is_silent.false in
    let says : AnswersFront c.args.session.now c.args.line.now c.answer_text.new.session (string_bytes c.in_ok-text.text) =
    subst (λ (b : Bool). Answers b (meaning_in (whole_line c.args.line.now)) c.args.session.now c.answer_text.new.session (string_bytes c.in_ok-text.text)) (sym silent) c.in_ok-text.ensures in
    let given : AnswersFront c.args.session.now c.args.line.now c.answer_text.new.session c.as_bytes.result.now =
    subst (λ (text : Bytes). AnswersFront c.args.session.now c.args.line.now c.answer_text.new.session text) (sym c.as_bytes.ensures.value) says in
    text_written (λ (text : Bytes). AnswersFront c.args.session.now c.args.line.now c.answer_text.new.session text) c.as_bytes.result.now _ _ _ c.write_whole.result c.map_err.result _ given c.write_whole.ensures.ok c.write_whole.ensures.err c.write_whole.ensures.cause c.map_err.ensures.cases (λ e fault q. search (rules, tests))
