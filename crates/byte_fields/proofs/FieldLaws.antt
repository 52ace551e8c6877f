-- Each field reads back what it spells, and reads nothing else.
use Rattle.std.proofs.Common.{◌≡◌, ℕ, true, List, ◌++◌, Option, Some, None, Ok, refl, sym, ap, ◌∙◌, append_assoc}
use Rattle.fs_base.specs.declared.kind.Kind.{Kind}
use Rattle.fs_base.specs.declared.kind.Kind.TheVariants as kinds
use Rattle.byte_fields.specs.Forms.{tagged, Form, paired, nothing, sized, reads_arm}
use Rattle.byte_fields.specs.Fields.{number_1, number_2, number_4, number_8, from_to, within, inode_id, mode, time, file_size, chunk, stripe, layout_form, layout, used_layout, version_arms, version, versioned, written_option, option_arms, optional, written_kind, kind_arms, kind, text, path_text}
use Rattle.byte_fields.proofs.FormLaws.{IsForm, went, AreArms, nothing_is, followed_is, paired_is, shaped_is, tested_is, one_field_is, sized_is, arm_is, arm_back, choice_is}
use Rattle.byte_fields.proofs.Numbers.{number_1_is, number_2_is, number_4_is, number_8_is}

pub within_is : (form : Form ℕ) (low high : ℕ) → IsForm form → IsForm (within form low high)
within_is form low high is = tested_is form (from_to low high) is

pub inode_id_is : IsForm inode_id
unfolding inode_id
inode_id_is = within_is number_8 _ _ number_8_is

pub mode_is : IsForm mode
unfolding mode
mode_is = within_is number_2 _ _ number_2_is

pub time_is : IsForm time
unfolding time
time_is = within_is number_8 _ _ number_8_is

pub file_size_is : IsForm file_size
unfolding file_size
file_size_is = within_is number_8 _ _ number_8_is

pub chunk_is : IsForm chunk
unfolding chunk
chunk_is = within_is number_4 _ _ number_4_is

pub stripe_is : IsForm stripe
unfolding stripe
stripe_is = within_is number_2 _ _ number_2_is

pub layout_of_is : (chunks stripes starts mixes : Form ℕ) → IsForm chunks → IsForm stripes → IsForm starts → IsForm mixes → IsForm (layout_form chunks stripes starts mixes)
layout_of_is chunks stripes starts mixes ic it is im =
    shaped_is (paired chunks (paired stripes (paired starts mixes))) _ _ (paired_is chunks _ ic (paired_is stripes _ it (paired_is starts mixes is im))) (λ x. refl) (λ l. refl)

pub layout_is : IsForm layout
unfolding layout
layout_is = layout_of_is chunk stripe _ inode_id chunk_is stripe_is (within_is number_2 0 255 number_2_is) inode_id_is

pub used_layout_is : IsForm used_layout
unfolding used_layout
used_layout_is = followed_is layout _ layout_is (λ l. within_is number_2 1 l.stripe number_2_is)

version_are : AreArms (tagged 1 nothing) version_arms
version_are = record { each = (arm_is (tagged 1 nothing) 1 nothing (λ x. x) nothing_is (λ x. refl), tt); back = λ x left rest h. refl }

pub version_is : IsForm version
unfolding version
version_is = choice_is number_1 (tagged 1 nothing) version_arms number_1_is version_are

version_fits : version.fits tt ≡ true
unfolding version number_1
version_fits = refl

pub versioned_is : {X : Type 0} (form : Form X) → IsForm form → IsForm (versioned form)
versioned_is form is = record {
  back = λ x rest h. rw (append_assoc, version_is.back tt (form.spelled x ++ rest) version_fits) (is.back x rest h);
  exact = λ bytes rest x h.
      let w = went (version.reads bytes) _ _ h in
      let ev = version_is.exact bytes w.a.1 w.a.0 w.first in
      let ef = is.exact w.a.1 rest x w.then in
      (ef.0, ev.1 ∙ (ap (λ r. version.spelled tt ++ r) ef.1 ∙ sym (append_assoc (version.spelled tt) (form.spelled x) rest)));
}

option_back : {X : Type 0} (form : Form X) → IsForm form → (o : Option X) (left : ℕ) (rest : List ℕ) → (written_option form o).fits ≡ true → reads_arm (option_arms form) (written_option form o).tag left ((written_option form o).spelled ++ rest) ≡ Ok (o, rest)
option_back {X} form is None left rest h = refl
option_back {X} form is (Some x) left rest h = arm_back {Y = Option X} 1 form (λ v. Some v) is x rest h

option_are : {X : Type 0} (form : Form X) → IsForm form → AreArms (written_option form) (option_arms form)
option_are form is = record {
  each = (arm_is (written_option form) 0 nothing (λ x. None) nothing_is (λ x. refl), (arm_is (written_option form) 1 form (λ x. Some x) is (λ x. refl), tt));
  back = option_back form is;
}

pub optional_is : {X : Type 0} (form : Form X) → IsForm form → IsForm (optional form)
optional_is form is = choice_is number_1 (written_option form) (option_arms form) number_1_is (option_are form is)

kind_back : (k : Kind) (left : ℕ) (rest : List ℕ) → (written_kind k).fits ≡ true → reads_arm kind_arms (written_kind k).tag left ((written_kind k).spelled ++ rest) ≡ Ok (k, rest)
kind_back kinds.Dir left rest h = refl
kind_back kinds.File left rest h = refl
kind_back kinds.Link left rest h = refl

kind_are : AreArms written_kind kind_arms
kind_are = record {
  each = (arm_is written_kind 1 nothing (λ x. kinds.Dir) nothing_is (λ x. refl), (arm_is written_kind 2 nothing (λ x. kinds.File) nothing_is (λ x. refl), (arm_is written_kind 3 nothing (λ x. kinds.Link) nothing_is (λ x. refl), tt)));
  back = kind_back;
}

pub kind_is : IsForm kind
unfolding kind
kind_is = choice_is number_1 written_kind kind_arms number_1_is kind_are

pub text_is : IsForm text
unfolding text
text_is = one_field_is (sized number_2) (sized_is number_2 number_2_is)

pub path_text_is : IsForm path_text
unfolding path_text
path_text_is = tested_is text _ text_is
