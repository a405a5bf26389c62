-- To unfold `all_open` is to unfold every rule, so that the rules compute.
use Prim.Native.Nat.{ℕ}
use lib.Ieee.{size, span, climb, units, odd, round, to_bits}
use lib.Count.{count_trailing_zeros}
use Rattle.rules.specs.Bytes.{ascii, join, has, number_from, number, cap, newline}
use Rattle.rules.specs.Digits.{digits_in, digits, signed_digits, signed, hex_digit, hex, last_digits, fraction, sign, decimal_text}
use Rattle.rules.specs.Utf8.{following, utf8_after, utf8}
use Rattle.rules.specs.Result.{◌>>=◌, ◌>>◌, need, sound}
use Rattle.rules.specs.Walk.{holds, allowed_to, right_length, is_block, right_opacity, right_size, text_content, anchor_content, content, strict_content, complete, tags, front_to, valued, walk_to, check_to, is_text}
use Rattle.rules.specs.Tree.{bytes_of, fields_of, or_empty, map_fields, signed_byte, styles_of, run_of, runs_of, anchor_of, frag_of, read_to}
use Rattle.rules.specs.Encode.{field, encode_fields, run_fields, runs_fields, anchor_tag, leaf_fields, block_tag, frag_fields, encode}
use Rattle.rules.specs.Layout.{or_script, effective, not_negative, byte_width, styled_width, width, ◌⊕◌, last, parts_shape, only_if_block, room, kept_inline, chosen, rigid_block, before, leaf_flexible, block_flexible, in_turn, nothing_yet, and_node, at_end, parts, rigid_text, rigid_runs, rigid, fragment_layout, layout}
use Rattle.rules.specs.Lines.{later, styled, text_ops, run_ops, runs_ops, leaf_ops, ops, start, ignored, joined, target, making, release, levels, spacing, item, broken, step, run, after, items}
use Rattle.rules.specs.Plain.{chars, plain, fill}
use Rattle.rules.specs.Float.{mag}
use Rattle.rules.specs.Search.{nearest, prefers_lower, choice, at_places, found, from_places, shortest}
use Rattle.rules.specs.Sizes.{signed_decimal, opacity_text, total, below_zero, rounded, product_of, sum_of, em, em_text}
use Rattle.rules.specs.Html.{separated, colour_css, weight_css, size_css, script, underline_css, css, tag_name, attribute, open_tag, close_tag, escape, strict_escape, root, opening, closing, makes, copies, escaped, id_attribute, mark_html, item_html, items_html, body, scope, scoped, lines, style_element, before_body, after_body, document}
use Rattle.rules.specs.Answers.{tree, strict_tree, changed, left_laid, written, left_page, check_answer_by, laid_out_by, layout_outcome_by, plain_text_by, body_text_by, document_text_by, plain_outcome_by, body_outcome_by, document_outcome_by}
use Rattle.rules.specs.Mask.{in_texts, accepted_texts, text_places, mask_byte, mask_bytes, mask}
use Rattle.rules.specs.Alike.{places, place_tree, page_list}
use Rattle.rules.specs.SameWords.{white, white_item, without, words, visible, marks, accepted_fields, file_fields, texts, without_7, page_items}
use Rattle.rules.specs.ReadBack.{same_bytes, referred, onward, shows, shown_from, ending}
use Rattle.rules.specs.Cases.{nibble, paired, still, pairs, unhex, print_at, answer, case, writes, leaves, nested, call, examples}
use Rattle.rules.specs.Refusals.{answers, no, no_bytes, inside_blocks, refusals}

unfoldable pub all_open : ℕ
unfolding
    count_trailing_zeros size span climb units odd round to_bits
    ascii join has number_from number cap newline digits_in digits signed_digits signed hex_digit hex last_digits fraction sign decimal_text following utf8_after utf8
    ◌>>=◌ ◌>>◌ need sound holds allowed_to right_length is_block right_opacity right_size text_content anchor_content content is_text strict_content complete tags front_to valued walk_to check_to
    bytes_of fields_of or_empty map_fields signed_byte styles_of run_of runs_of anchor_of frag_of read_to
    field encode_fields run_fields runs_fields anchor_tag leaf_fields block_tag frag_fields encode
    or_script effective not_negative byte_width styled_width width ◌⊕◌ last parts_shape only_if_block room kept_inline chosen rigid_block
    before leaf_flexible block_flexible in_turn nothing_yet and_node at_end parts rigid_text rigid_runs rigid fragment_layout layout
    later styled text_ops run_ops runs_ops leaf_ops ops start ignored joined target making release levels spacing item broken step run after items chars plain fill
    mag nearest prefers_lower choice at_places found from_places shortest signed_decimal opacity_text total below_zero rounded product_of sum_of em em_text
    separated colour_css weight_css size_css script underline_css css tag_name attribute open_tag close_tag escape strict_escape root opening closing makes copies escaped id_attribute mark_html item_html items_html body
    scope scoped lines style_element before_body after_body document
    tree strict_tree changed left_laid written left_page check_answer_by laid_out_by layout_outcome_by plain_text_by body_text_by document_text_by plain_outcome_by body_outcome_by document_outcome_by
    in_texts accepted_texts text_places mask_byte mask_bytes mask places place_tree page_list
    white white_item without words visible marks accepted_fields file_fields texts without_7 page_items same_bytes referred onward shows shown_from ending
    nibble paired still pairs unhex print_at answer case writes leaves nested call examples answers no no_bytes inside_blocks refusals
all_open = 0
