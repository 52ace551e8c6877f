mod OwnerLaws
