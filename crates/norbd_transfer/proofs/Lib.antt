mod DifferingLaws
